-- The edges of a table of corners: the corners read round from a place are a table too.
use mathlib.Core.Path.{◌≡◌, sym, ap, ap₂, ◌∙◌}
use mathlib.Core.List.{List, ◌∷◌, ◌++◌, map}
use Prim.Native.Nat.{ℕ, zero, suc, ◌+◌, ◌-◌, ◌≤◌, ◌<◌}
use native.Mathlib.Nat.{zero-add, add-zero}
use native.Mathlib.Omega.{arith}
use lib.ListN.{take, drop, length-drop}
use lib.Seq.{take_all}
use Rattle.model.specs.Lists.{range}
use Rattle.model.specs.Vector.{Vec}
use Rattle.model.specs.Patch.{Edge, round, first_edge}
use Rattle.model.proofs.Tables.{length_table, run_of_table, same_table}
use Rattle.projection.specs.Projected.{wrap}
use Rattle.projection.proofs.ReadRound.{wrap_low, wrap_high}

tables_join : {A : Type 0} (f : ℕ → A) (i m n : ℕ) → map f (range i m) ++ map f (range (i + m) n) ≡ map f (range i (m + n))
tables_join f i zero n = rw (add-zero i, zero-add n)
tables_join {A} f i (suc m) n =
    let e : suc i + m ≡ i + suc m = omega arith in
    let d : suc m + n ≡ suc (m + n) = omega arith in
    rw (← e, d) (ap (λ (l : List A). f i ∷ l) (tables_join f (suc i) m n))

-- the edge from corner k
abbrev pub edge : (ℕ → Vec) → ℕ → ℕ → Edge
edge corner n k =
    record {
      from = corner k;
      to = corner (wrap n (k + 1));
      others = map (λ (j : ℕ). corner (wrap n (k + 2 + j))) (range 0 (n - 2));
    }

module _ (corner : ℕ → Vec) (n k : ℕ) (h : k < n) where
  abbrev turned : ℕ → Vec
  turned j = corner (wrap n (k + j))

  from_place : drop k (map corner (range 0 n)) ≡ map turned (range 0 (n - k))
  from_place =
      let t : List Vec = map corner (range 0 n) in
      sym (take_all (n - k) (drop k t) (omega (arith, length-drop k t, length_table corner 0 n)))
      ∙ run_of_table corner n k (n - k) (omega arith)
      ∙ same_table corner turned k 0 (n - k) (λ j b. ap corner (wrap_low (omega arith) ∙ ap (wrap n) (omega arith)))

  to_place : take k (map corner (range 0 n)) ≡ map turned (range (0 + (n - k)) k)
  to_place =
      run_of_table corner n 0 k (omega arith)
      ∙ same_table corner turned 0 (0 + (n - k)) k
      (λ j b. ap corner (before j b ∙ wrap_high {n = n} {i = k + (0 + (n - k) + j)} (omega arith)))
    where
      before : (j : ℕ) → j < k → 0 + j ≡ k + (0 + (n - k) + j) - n
      before j b = omega arith

  round_table : round (map corner (range 0 n)) k ≡ map turned (range 0 n)
  round_table =
      let e : n - k + k ≡ n = omega arith in
      ap₂ ◌++◌ from_place to_place ∙ tables_join turned 0 (n - k) k ∙ ap (λ (m : ℕ). map turned (range 0 m)) e

  pub edge_at : 3 ≤ n → first_edge (round (map corner (range 0 n)) k) ≡ edge corner n k
  edge_at b =
      let e : n ≡ suc (suc (n - 2)) = omega arith in
      ap first_edge (round_table ∙ ap (λ (m : ℕ). map turned (range 0 m)) e) ∙ named
    where
      first : wrap n (k + 0) ≡ k
      first = ap (wrap n) (add-zero k) ∙ sym (wrap_low h)

      rest : map turned (range 2 (n - 2)) ≡ map (λ (j : ℕ). corner (wrap n (k + 2 + j))) (range 0 (n - 2))
      rest = same_table turned (λ (j : ℕ). corner (wrap n (k + 2 + j))) 2 0 (n - 2) (λ j b. ap (λ (i : ℕ). corner (wrap n i)) (omega arith))

      named : ◌≡◌ {A = Edge} (record { from = turned 0; to = turned 1; others = map turned (range 2 (n - 2)) }) (edge corner n k)
      named = λ i. record { from = corner (first i); to = corner (wrap n (k + 1)); others = rest i }
