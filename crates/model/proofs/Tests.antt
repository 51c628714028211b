-- Tests as facts: orders, `&&`, `||`, and tests and tallies over lists.
use mathlib.Core.Path.{◌≡◌, refl, sym, ap, subst, ◌∙◌}
use mathlib.Core.Logic.Iff
use mathlib.Core.Logic.{◌↔◌, ◌⊎◌, inl, inr, ⊎_elim}
use mathlib.Core.Bool.{Bool, true, false, ◌&&◌, ◌||◌, or_assoc}
use mathlib.Core.List.Memᴰ
use mathlib.Core.List.{List, [], ◌∷◌, ◌++◌, Memᴰ}
use Prim.Native.Nat.{ℕ, ◌≤◌, ◌<◌}
use native.Mathlib.Nat.{not-suc-le-zero, eq-zero-or-pos}
use native.Mathlib.Omega.{arith}
use lib.Dec.{T, ltb}
use borrow.Author.Tests.{ltb-true, ltb-false}
use Rattle.model.specs.Lists.{every, any, add_if, tally}

pub is_true : {b : Bool} → b ≡ true → T b
is_true e = subst T (sym e) tt

pub true_of : {b : Bool} → T b → b ≡ true
true_of {b = true} t = refl
true_of {b = false} t = absurd t

-- a test that cannot fail passes
pub not_failing : (b : Bool) → ((T b → ⊥) → ⊥) → T b
not_failing true f = tt
not_failing false f = f (λ t. t)

pub lt_or_ge : (a b : ℕ) → (a < b) ⊎ (b ≤ a)
lt_or_ge a b = go (ltb a b) refl
  where
    go : (t : Bool) → ltb a b ≡ t → (a < b) ⊎ (b ≤ a)
    go true e = inl (ltb-true a b e)
    go false e = inr (ltb-false a b e)

-- two tests that pass together are equal
pub same_test : (a b : Bool) → (T a → T b) → (T b → T a) → a ≡ b
same_test true true f g = refl
same_test true false f g = absurd (f tt)
same_test false true f g = absurd (g tt)
same_test false false f g = refl

pub both : (a b : Bool) → T (a && b) ↔ (T a × T b)
both true b = (λ t. (tt, t), λ p. p.1)
both false b = (λ t. absurd t, λ p. p.0)

-- the same where a test is said to be true
pub both_true : (a b : Bool) → (a && b) ≡ true → (a ≡ true) × (b ≡ true)
both_true true b e = (refl, e)
both_true false true e = (e, refl)
both_true false false e = (e, e)

pub either : (a b : Bool) → T (a || b) ↔ (T a ⊎ T b)
either true b = (λ t. inl tt, λ p. tt)
either false b = (λ t. inr t, λ p. ⊎_elim (λ (t : ⊥). absurd t) (λ (t : T b). t) p)

-- what holds of a list's head and of every other element holds of every element
pub of_cons :
    {A : Type 0} (P : A → Type 0) {a : A} {xs : List A} →
    P a →
    ((x : A) → Memᴰ x xs → P x) →
    (x : A) →
    Memᴰ x (a ∷ xs) →
    P x
of_cons P h f x (Memᴰ.head e) = subst P (sym e) h
of_cons P h f x (Memᴰ.tail m) = f x m

pub of_append :
    {A : Type 0} (P : A → Type 0) (s : List A) {t : List A} →
    ((x : A) → Memᴰ x s → P x) →
    ((x : A) → Memᴰ x t → P x) →
    (x : A) →
    Memᴰ x (s ++ t) →
    P x
of_append P [] f g = g
of_append P (a ∷ s) f g = of_cons P (f a (Memᴰ.head refl)) (of_append P s (λ x m. f x (Memᴰ.tail m)) g)

pub of_one : {A : Type 0} (P : A → Type 0) {a : A} → P a → (x : A) → Memᴰ x (a ∷ []) → P x
of_one P h = of_cons P h (λ x m. absurd (Memᴰ.not-nil m))

module _ {A : Type 0} (test : A → Bool) where
  pub every_true : (xs : List A) → T (every test xs) ↔ ((x : A) → Memᴰ x xs → T (test x))
  every_true [] = (λ t x m. absurd (Memᴰ.not-nil m), λ f. tt)
  every_true (a ∷ xs) =
      let b = both (test a) (every test xs) in
      let r = every_true xs in (
        λ t. of_cons (λ (x : A). T (test x)) (b.0 t).0 (r.0 (b.0 t).1),
        λ f. b.1 (f a (Memᴰ.head refl), r.1 (λ x m. f x (Memᴰ.tail m))),
      )

  -- an element that passes the test
  abbrev Passing : List A → Type 0
  Passing xs = (x : A) × Memᴰ x xs × T (test x)

  pub any_true : (xs : List A) → T (any test xs) ↔ ((x : A) × Memᴰ x xs × T (test x))
  any_true [] = (λ t. absurd t, λ s. Memᴰ.not-nil s.1)
  any_true (a ∷ xs) = (
    λ t. there (any_true xs).0 ((either (test a) (any test xs)).0 t),
    λ s. (either (test a) (any test xs)).1 (back (any_true xs).1 s),
  )
    where
      there : (T (any test xs) → Passing xs) → T (test a) ⊎ T (any test xs) → Passing (a ∷ xs)
      there f (inl t) = (a, Memᴰ.head refl, t)
      there f (inr t) = let s = f t in (s.0, Memᴰ.tail s.1, s.2)

      back : (Passing xs → T (any test xs)) → Passing (a ∷ xs) → T (test a) ⊎ T (any test xs)
      back f (x, m, t) =
          ⊎_elim (λ (e : x ≡ a). inl (subst (λ (y : A). T (test y)) e t)) (λ (k : Memᴰ x xs). inr (f (x, k, t)))
          (Memᴰ.cases_cons m)

  pub any_append : (s t : List A) → any test (s ++ t) ≡ (any test s || any test t)
  any_append [] t = refl
  any_append (a ∷ s) t = ap (λ (b : Bool). test a || b) (any_append s t) ∙ sym (or_assoc (test a) (any test s) (any test t))

  -- a count is above 0 exactly where an element passes
  pub tally_some : (xs : List A) → (0 < tally test xs) ↔ ((x : A) × Memᴰ x xs × T (test x))
  tally_some xs = Iff.trans (tally_any xs) (any_true xs)
    where
      step : (b r : Bool) (n : ℕ) → (0 < n) ↔ T r → (0 < add_if b n) ↔ T (b || r)
      step true r n h = (λ k. tt, λ t. omega arith)
      step false r n h = h

      tally_any : (xs : List A) → (0 < tally test xs) ↔ T (any test xs)
      tally_any [] = (λ h. absurd (not-suc-le-zero h), λ t. absurd t)
      tally_any (a ∷ xs) = step (test a) (any test xs) (tally test xs) (tally_any xs)

  -- and 0 exactly where none does
  pub tally_none : (xs : List A) → (tally test xs ≡ 0) ↔ ((x : A) → Memᴰ x xs → T (test x) → ⊥)
  tally_none xs = (
    λ e x m t. let h : 0 < tally test xs = (tally_some xs).1 (x, m, t) in omega arith,
    λ f. ⊎_elim (λ (e : tally test xs ≡ 0). e) (λ (h : 0 < tally test xs). absurd (unpassed f ((tally_some xs).0 h)))
        (eq-zero-or-pos (tally test xs)),
  )
    where
      unpassed : ((x : A) → Memᴰ x xs → T (test x) → ⊥) → Passing xs → ⊥
      unpassed f (x, m, t) = f x m t
