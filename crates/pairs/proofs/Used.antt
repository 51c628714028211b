-- The used pairs of a row.
use mathlib.Core.Path.{◌≡◌, refl, sym, ap, ◌∙◌}
use mathlib.Core.List.{List, ◌∷◌, ◌++◌, append_assoc, append-nil}
use Prim.Native.Nat.{ℕ, suc, ◌+◌, ◌*◌, ◌≤◌, ◌<◌}
use native.Mathlib.Numerals.{add-one, add-two}
use native.Mathlib.Omega.{arith}
use lib.ListN.{length, get_or, take, drop, drop_of_length-le}
use lib.Seq.{drop-cons, take-add, take_all}
use Rattle.model.specs.Row.{used_pairs}
use Rattle.segments.proofs.Rows.{used_pair}

-- the first k pairs are used; the others are still to be looked at
pub record UsedTo (row : List ℕ) (k : ℕ) : Type 0 where
  pub used : used_pairs row ≡ take (2 * k) row ++ used_pairs (drop (2 * k) row)

pub used_starts : (row : List ℕ) → UsedTo row 0
used_starts row = record { used = refl }

pair_of : (row : List ℕ) (i : ℕ) → i + 1 < length row → drop i row ≡ get_or row i 0 ∷ get_or row (i + 1) 0 ∷ drop (i + 2) row
pair_of row i h =
    drop-cons row i 0 (omega arith)
    ∙ ap (λ (xs : List ℕ). get_or row i 0 ∷ xs) (drop-cons row (suc i) 0 (omega arith))
    ∙ rw (add-one i, add-two i)

module _ {row : List ℕ} {k : ℕ} (full : length row ≡ 256) (inv : UsedTo row k) where
  pub used_over : 128 ≤ k → row ≡ used_pairs row
  unfolding used_pairs
  used_over h =
      sym (inv.used ∙ rw (drop_of_length-le row {i = 2 * k} (omega arith), append-nil, take_all (2 * k) row (omega arith)))

  pub used_ends : k < 128 → get_or row (2 * k + 1) 0 ≡ 0 → take (2 * k) row ≡ used_pairs row
  unfolding used_pairs
  used_ends h z = sym (inv.used ∙ rw (pair_of row (2 * k) (omega arith), z, append-nil))

  pub used_goes : k < 128 → (get_or row (2 * k + 1) 0 ≡ 0 → ⊥) → UsedTo row (k + 1)
  used_goes h n =
      let i : ℕ = 2 * k in
      let p = pair_of row i (omega arith) in
      let e : 2 * (k + 1) ≡ i + 2 = omega arith in
      record {
        used = rw e (inv.used ∙ rw (take-add i 2 row, append_assoc, p, used_pair (get_or row i 0) (get_or row (i + 1) 0) (drop (i + 2) row) (omega arith)));
      }
