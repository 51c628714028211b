-- The answer of `all` over the numbers of a range.
use mathlib.Core.Path.{◌≡◌, refl, sym, ap, ◌∙◌}
use mathlib.Core.Bool.{Bool, ◌&&◌}
use mathlib.Core.List.{List, [], ◌∷◌, map}
use Prim.Native.Nat.{ℕ, zero, suc, ◌+◌}
use native.Mathlib.Omega.{arith}
use Rattle.std.specs.List.{list_all, range_with_len}
use Rattle.model.specs.Lists.{every, range}

pub every_of_range : (test : ℕ → Bool) (i n : ℕ) → list_all test (range_with_len i n) ≡ every test (range i n)
every_of_range test i zero = refl
every_of_range test i (suc n) =
    let up : i + 1 ≡ suc i = omega arith in
    ap (λ (b : Bool). test i && b) (ap (λ (m : ℕ). list_all test (range_with_len m n)) up ∙ every_of_range test (suc i) n)

module _ {A : Type 0} (test : A → Bool) (f : ℕ → A) where
  tested : (ks : List ℕ) → every test (map f ks) ≡ every (λ (k : ℕ). test (f k)) ks
  tested [] = refl
  tested (k ∷ ks) = ap (λ (t : Bool). test (f k) && t) (tested ks)

  -- the test of each entry of a table, asked by its number
  pub all_numbered :
      (first n : ℕ) {asked whole : Bool} →
      asked ≡ list_all (λ (k : ℕ). test (f k)) (range_with_len first n) →
      whole ≡ every test (map f (range first n)) →
      asked ≡ whole
  all_numbered first n a w = a ∙ every_of_range (λ (k : ℕ). test (f k)) first n ∙ sym (w ∙ tested (range first n))
