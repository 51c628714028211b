-- `spans::clip` meets its contract: each of the four answers is a law of the number's signs at the span's ends.
use mathlib.Core.Path.{◌≡◌, refl, sym, subst, ◌∙◌, ap₂}
use Prim.Native.Nat.{ℕ, ◌+◌, ◌-◌, ◌/◌}
use native.Mathlib.Omega.{arith}
use lib.IntN.{ℤ, pos, nat_abs, neg_ℤ, ◌-ℤ◌}
use lib.Signed.{◌<ℤ◌, ◌≤ℤ◌}
use mir.Syntax.{w64}
use mir.Val.{to_z, of_z}
use Rattle.integer.proofs.Order.{suc-≤, ≤_diff}
use Rattle.integer.proofs.Products.{neg_of_neg, neg_of_nonpos}
use Rattle.integer.proofs.Machine.{machine, no_overflow, exact}
use Rattle.integer.proofs.Comparison.{comparisons}
use Rattle.spans.specs.Span.{number_at, Linear}
use Rattle.spans.proofs.Clipping.{falls, rises, whole_rising, whole_falling, nothing, cut_end, cut_first}
use Rattle.spans.proofs.clip.Goals as goal

-- ---- what the machine computes from the slope and the start

module _ {A B : ℤ} (h : Linear A B) where
  slope_is : to_z w64 (of_z w64 A) ≡ A
  slope_is = exact w64 (search machine depth 40 fits 20000, tt, refl)

  start_is : to_z w64 (of_z w64 B) ≡ B
  start_is = exact w64 (search machine depth 40 fits 20000, tt, refl)

  slope_turned : to_z w64 (of_z w64 (pos 0 -ℤ to_z w64 (of_z w64 A))) ≡ neg_ℤ A
  slope_turned = exact w64 (search machine depth 40 fits 20000, tt, refl)

  start_turned : to_z w64 (of_z w64 (pos 0 -ℤ to_z w64 (of_z w64 B))) ≡ neg_ℤ B
  start_turned = exact w64 (search machine depth 40 fits 20000, tt, refl)

  start_less : to_z w64 (of_z w64 (to_z w64 (of_z w64 B) -ℤ pos 1)) ≡ B -ℤ pos 1
  start_less = exact w64 (search machine depth 40 fits 20000, tt, refl)

  number_is : {r : ℤ} (i : ℕ) → r ≡ number_at (to_z w64 (of_z w64 A)) (to_z w64 (of_z w64 B)) i → r ≡ number_at A B i
  number_is i e = e ∙ ap₂ (λ (a b : ℤ). number_at a b i) slope_is start_is

quotient_of : {n d n' d' : ℤ} {q : ℕ} → n ≡ n' → d ≡ d' → q ≡ nat_abs n / nat_abs d + 1 → q ≡ nat_abs n' / nat_abs d' + 1
quotient_of e f is = is ∙ ap₂ (λ (n d : ℤ). nat_abs n / nat_abs d + 1) e f

pub returns-then-number_at-gt0 : goal.returns-then-number_at-gt0
returns-then-number_at-gt0 c = whole_falling c.requires.0.some (let falls_down : c.args.slope <ℤ pos 0 = search comparisons in falls_down) (subst (pos 0 <ℤ◌) (let last_is : c.number_at.result ≡ number_at c.args.slope c.args.start (c.args.span.end - 1) = number_is c.requires.1 (c.args.span.end - 1) c.number_at.ensures in last_is) (search comparisons))

pub past_quotient-requires : goal.past_quotient-requires
past_quotient-requires c =
    let h = c.requires.1 in (
      subst (pos 0 ≤ℤ◌) (sym (start_less h)) (≤_diff (suc-≤ (let falling : (c.args.slope <ℤ pos 0) × (pos 0 <ℤ c.args.start) = falls _ _ (omega (arith, c.requires.0.some)) (let first_above : pos 0 <ℤ number_at c.args.slope c.args.start c.args.span.first = subst (pos 0 <ℤ◌) (let first_is_lem : c.number_at-else-number_at-gt0.result ≡ number_at c.args.slope c.args.start c.args.span.first = number_is c.requires.1 c.args.span.first c.number_at-else-number_at-gt0.ensures in first_is_lem) (search comparisons) in first_above) (let last_not_above : number_at c.args.slope c.args.start (c.args.span.end - 1) ≤ℤ pos 0 = subst (◌≤ℤ pos 0) (let last_is : c.number_at.result ≡ number_at c.args.slope c.args.start (c.args.span.end - 1) = number_is c.requires.1 (c.args.span.end - 1) c.number_at.ensures in last_is) (search comparisons) in last_not_above) in falling).1)),
      subst (pos 0 <ℤ◌) (sym (slope_turned h)) (neg_of_neg (let falling : (c.args.slope <ℤ pos 0) × (pos 0 <ℤ c.args.start) = falls _ _ (omega (arith, c.requires.0.some)) (let first_above : pos 0 <ℤ number_at c.args.slope c.args.start c.args.span.first = subst (pos 0 <ℤ◌) (let first_is_lem : c.number_at-else-number_at-gt0.result ≡ number_at c.args.slope c.args.start c.args.span.first = number_is c.requires.1 c.args.span.first c.number_at-else-number_at-gt0.ensures in first_is_lem) (search comparisons) in first_above) (let last_not_above : number_at c.args.slope c.args.start (c.args.span.end - 1) ≤ℤ pos 0 = subst (◌≤ℤ pos 0) (let last_is : c.number_at.result ≡ number_at c.args.slope c.args.start (c.args.span.end - 1) = number_is c.requires.1 (c.args.span.end - 1) c.number_at.ensures in last_is) (search comparisons) in last_not_above) in falling).0),
    )

pub returns-then-number_at-gt0-2 : goal.returns-then-number_at-gt0-2
returns-then-number_at-gt0-2 c =
    cut_end c.requires.0.some (let first_above : pos 0 <ℤ number_at c.args.slope c.args.start c.args.span.first = subst (pos 0 <ℤ◌) (let first_is_lem : c.number_at-else-number_at-gt0.result ≡ number_at c.args.slope c.args.start c.args.span.first = number_is c.requires.1 c.args.span.first c.number_at-else-number_at-gt0.ensures in first_is_lem) (search comparisons) in first_above) (let last_not_above : number_at c.args.slope c.args.start (c.args.span.end - 1) ≤ℤ pos 0 = subst (◌≤ℤ pos 0) (let last_is : c.number_at.result ≡ number_at c.args.slope c.args.start (c.args.span.end - 1) = number_is c.requires.1 (c.args.span.end - 1) c.number_at.ensures in last_is) (search comparisons) in last_not_above)
    (quotient_of (start_less c.requires.1) (slope_turned c.requires.1) c.past_quotient.ensures)

pub returns-else-number_at-gt0-2 : goal.returns-else-number_at-gt0-2
returns-else-number_at-gt0-2 c = nothing c.requires.0.some (subst (◌≤ℤ pos 0) (let first_is_lem : c.number_at-else-number_at-gt0.result ≡ number_at c.args.slope c.args.start c.args.span.first = number_is c.requires.1 c.args.span.first c.number_at-else-number_at-gt0.ensures in first_is_lem) (search comparisons)) (let last_not_above : number_at c.args.slope c.args.start (c.args.span.end - 1) ≤ℤ pos 0 = subst (◌≤ℤ pos 0) (let last_is : c.number_at.result ≡ number_at c.args.slope c.args.start (c.args.span.end - 1) = number_is c.requires.1 (c.args.span.end - 1) c.number_at.ensures in last_is) (search comparisons) in last_not_above)

pub returns-then-number_at-gt0-3 : goal.returns-then-number_at-gt0-3
returns-then-number_at-gt0-3 c = whole_rising c.requires.0.some (let not_falls : pos 0 ≤ℤ c.args.slope = search comparisons in not_falls) (subst (pos 0 <ℤ◌) (let first_is_2 : c.number_at-else-slope-lt0.result ≡ number_at c.args.slope c.args.start c.args.span.first = number_is c.requires.1 c.args.span.first c.number_at-else-slope-lt0.ensures in first_is_2) (search comparisons))

pub past_quotient-requires-then-number_at-gt0-4 : goal.past_quotient-requires-then-number_at-gt0-4
past_quotient-requires-then-number_at-gt0-4 c =
    let h = c.requires.1 in (
      subst (pos 0 ≤ℤ◌) (sym (start_turned h)) (neg_of_nonpos (let rising : (pos 0 <ℤ c.args.slope) × (c.args.start ≤ℤ pos 0) = rises _ _ (omega (arith, c.requires.0.some)) (let first_not_above : number_at c.args.slope c.args.start c.args.span.first ≤ℤ pos 0 = subst (◌≤ℤ pos 0) (let first_is_2 : c.number_at-else-slope-lt0.result ≡ number_at c.args.slope c.args.start c.args.span.first = number_is c.requires.1 c.args.span.first c.number_at-else-slope-lt0.ensures in first_is_2) (search comparisons) in first_not_above) (let last_above : pos 0 <ℤ number_at c.args.slope c.args.start (c.args.span.end - 1) = subst (pos 0 <ℤ◌) (let last_is_2 : c.number_at-else-number_at-gt0-3.result ≡ number_at c.args.slope c.args.start (c.args.span.end - 1) = number_is c.requires.1 (c.args.span.end - 1) c.number_at-else-number_at-gt0-3.ensures in last_is_2) (search comparisons) in last_above) in rising).1),
      subst (pos 0 <ℤ◌) (sym (slope_is h)) (let rising : (pos 0 <ℤ c.args.slope) × (c.args.start ≤ℤ pos 0) = rises _ _ (omega (arith, c.requires.0.some)) (let first_not_above : number_at c.args.slope c.args.start c.args.span.first ≤ℤ pos 0 = subst (◌≤ℤ pos 0) (let first_is_2 : c.number_at-else-slope-lt0.result ≡ number_at c.args.slope c.args.start c.args.span.first = number_is c.requires.1 c.args.span.first c.number_at-else-slope-lt0.ensures in first_is_2) (search comparisons) in first_not_above) (let last_above : pos 0 <ℤ number_at c.args.slope c.args.start (c.args.span.end - 1) = subst (pos 0 <ℤ◌) (let last_is_2 : c.number_at-else-number_at-gt0-3.result ≡ number_at c.args.slope c.args.start (c.args.span.end - 1) = number_is c.requires.1 (c.args.span.end - 1) c.number_at-else-number_at-gt0-3.ensures in last_is_2) (search comparisons) in last_above) in rising).0,
    )

pub returns-then-number_at-gt0-4 : goal.returns-then-number_at-gt0-4
returns-then-number_at-gt0-4 c =
    cut_first c.requires.0.some (let first_not_above : number_at c.args.slope c.args.start c.args.span.first ≤ℤ pos 0 = subst (◌≤ℤ pos 0) (let first_is_2 : c.number_at-else-slope-lt0.result ≡ number_at c.args.slope c.args.start c.args.span.first = number_is c.requires.1 c.args.span.first c.number_at-else-slope-lt0.ensures in first_is_2) (search comparisons) in first_not_above) (let last_above : pos 0 <ℤ number_at c.args.slope c.args.start (c.args.span.end - 1) = subst (pos 0 <ℤ◌) (let last_is_2 : c.number_at-else-number_at-gt0-3.result ≡ number_at c.args.slope c.args.start (c.args.span.end - 1) = number_is c.requires.1 (c.args.span.end - 1) c.number_at-else-number_at-gt0-3.ensures in last_is_2) (search comparisons) in last_above)
    (quotient_of (start_turned c.requires.1) (slope_is c.requires.1) c.past_quotient-then-number_at-gt0-4.ensures)

pub returns-else-number_at-gt0-4 : goal.returns-else-number_at-gt0-4
returns-else-number_at-gt0-4 c = nothing c.requires.0.some (let first_not_above : number_at c.args.slope c.args.start c.args.span.first ≤ℤ pos 0 = subst (◌≤ℤ pos 0) (let first_is_2 : c.number_at-else-slope-lt0.result ≡ number_at c.args.slope c.args.start c.args.span.first = number_is c.requires.1 c.args.span.first c.number_at-else-slope-lt0.ensures in first_is_2) (search comparisons) in first_not_above) (subst (◌≤ℤ pos 0) (let last_is_2 : c.number_at-else-number_at-gt0-3.result ≡ number_at c.args.slope c.args.start (c.args.span.end - 1) = number_is c.requires.1 (c.args.span.end - 1) c.number_at-else-number_at-gt0-3.ensures in last_is_2) (search comparisons))

pub overflow_sub-start : goal.overflow_sub-start
overflow_sub-start c = no_overflow (search machine depth 40 fits 20000, tt)

pub overflow_sub-slope : goal.overflow_sub-slope
overflow_sub-slope c = no_overflow (search machine depth 40 fits 20000, tt)

pub overflow_sub-start-then-number_at-gt0-4 : goal.overflow_sub-start-then-number_at-gt0-4
overflow_sub-start-then-number_at-gt0-4 c = no_overflow (search machine depth 40 fits 20000, tt)
