-- What a comparison of two machine words tells of the numbers that they hold. A branch leaves `lt_z` or `le_z` of two words, or an equation of
-- their bits; `search comparisons` turns it into the order or the equation of two numbers that fit their words: parameters, results of
-- calls, literals. Assumes nothing.
use mathlib.Core.Path.{◌≡◌, sym, subst, ap, ap₂, ◌∙◌}
use mathlib.Core.Bool.{Bool, true, false, not}
use lib.Dec.{T, lit<, lt→ltb, nleb→lt}
use lib.IntN.{ℤ, pos, negsuc}
use lib.Signed.{lt_z, le_z, ◌<ℤ◌, ◌≤ℤ◌, lt_z_yes, lt_z_no, le_z_yes}
use mir.Syntax.{Width}
use mir.Val.{SFits, to_z, of_z}
use mir.ValLaws.{to_z-of_z}
use borrow.Author.Rules.{sfits_of}

above : (a b : ℤ) → T (not (le_z a b)) → T (lt_z b a)
above (pos a) (pos b) t = lt→ltb b a (nleb→lt a b t)
above (pos a) (negsuc b) t = tt
above (negsuc a) (pos b) t = t
above (negsuc a) (negsuc b) t = lt→ltb a b (nleb→lt b a t)

module _ (w : Width) {a b : ℤ} (f : SFits w a) (g : SFits w b) where
  bare : (test : ℤ → ℤ → Bool) → test a b ≡ test (to_z w (of_z w a)) (to_z w (of_z w b))
  bare test = sym (ap₂ test (to_z-of_z w a f) (to_z-of_z w b g))

  held : (test : ℤ → ℤ → Bool) → test (to_z w (of_z w a)) (to_z w (of_z w b)) ≡ true → T (test a b)
  held test e = subst T (sym (bare test ∙ e)) tt

  failed : (test : ℤ → ℤ → Bool) → test (to_z w (of_z w a)) (to_z w (of_z w b)) ≡ false → T (not (test a b))
  failed test e = subst (λ (t : Bool). T (not t)) (sym (bare test ∙ e)) tt

  pub less : lt_z (to_z w (of_z w a)) (to_z w (of_z w b)) ≡ true → a <ℤ b
  less e = lt_z_yes (held lt_z e)

  pub not_less : lt_z (to_z w (of_z w a)) (to_z w (of_z w b)) ≡ false → b ≤ℤ a
  not_less e = lt_z_no (failed lt_z e)

  pub at_most : le_z (to_z w (of_z w a)) (to_z w (of_z w b)) ≡ true → a ≤ℤ b
  at_most e = le_z_yes (held le_z e)

  pub not_at_most : le_z (to_z w (of_z w a)) (to_z w (of_z w b)) ≡ false → b <ℤ a
  not_at_most e = lt_z_yes (above a b (failed le_z e))

  pub same : of_z w a ≡ of_z w b → a ≡ b
  same e = sym (to_z-of_z w a f) ∙ ap (to_z w) e ∙ to_z-of_z w b g

pub ruleset comparisons = (less, not_less, at_most, not_at_most, same, sfits_of, lit<, tt)
