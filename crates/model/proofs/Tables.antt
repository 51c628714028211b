-- Tables: the lists `map f (range i n)`.
use mathlib.Core.Path.{◌≡◌, refl, sym, ap, ap₂, ◌∙◌}
use mathlib.Core.List.{List, ◌∷◌, map}
use Prim.Native.Nat.{ℕ, zero, suc, ◌+◌, ◌≤◌, ◌<◌}
use native.Mathlib.Nat.{zero-add, add-zero}
use native.Mathlib.Omega.{arith}
use lib.ListN.{length, get_or, take, drop, replicate, length-map}
use Rattle.model.specs.Lists.{range}
use Rattle.model.proofs.Ranges.{range_length, range_at}

module _ {A : Type 0} (f : ℕ → A) where
  pub length_table : (i n : ℕ) → length (map f (range i n)) ≡ n
  length_table i n = length-map (range i n) f ∙ range_length i n

  pub table_at : (n k : ℕ) (d : A) → k < n → get_or (map f (range 0 n)) k d ≡ f k
  table_at n k d h = range_at f 0 n k d h ∙ ap f (zero-add k)

  head_part : (i n b : ℕ) → b ≤ n → take b (map f (range i n)) ≡ map f (range i b)
  head_part i n zero h = refl
  head_part i zero (suc b) h = absurd (omega arith)
  head_part i (suc n) (suc b) h = ap (λ (l : List A). f i ∷ l) (head_part (suc i) n b (omega arith))

  part : (i n a b : ℕ) → a + b ≤ n → take b (drop a (map f (range i n))) ≡ map f (range (i + a) b)
  part i n zero b h = head_part i n b (omega arith) ∙ ap (λ (m : ℕ). map f (range m b)) (sym (add-zero i))
  part i zero (suc a) b h = absurd (omega arith)
  part i (suc n) (suc a) b h =
      part (suc i) n a b (omega arith) ∙ ap (λ (m : ℕ). map f (range m b)) (omega arith)

  -- the records that a run names
  pub run_of_table : (n a b : ℕ) → a + b ≤ n → take b (drop a (map f (range 0 n))) ≡ map f (range a b)
  run_of_table n a b h = part 0 n a b h ∙ ap (λ (m : ℕ). map f (range m b)) (zero-add a)

-- tables with equal entries
pub same_table : {A : Type 0} (f g : ℕ → A) (i j n : ℕ) → ((k : ℕ) → k < n → f (i + k) ≡ g (j + k)) → map f (range i n) ≡ map g (range j n)
same_table f g i j zero h = refl
same_table f g i j (suc n) h =
    ap₂ ◌∷◌ (ap f (sym (add-zero i)) ∙ h 0 (omega arith) ∙ ap g (add-zero j))
    (same_table f g (suc i) (suc j) n (λ k b. ap f (omega arith) ∙ h (suc k) (omega arith) ∙ ap g (omega arith)))

-- a table of zeros
pub zero_at : (n k : ℕ) → ◌≡◌ {A = ℕ} (get_or (replicate n 0) k 0) 0
zero_at zero k = refl
zero_at (suc n) zero = refl
zero_at (suc n) (suc k) = zero_at n k
