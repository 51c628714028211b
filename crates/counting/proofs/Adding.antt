-- Patch after patch: each adds its cells to its panel's count, and takes them from those that are left.
use mathlib.Core.Path.{◌≡◌, sym, ap, subst, ◌∙◌}
use mathlib.Core.Bool.{Bool, true, false, cond}
use mathlib.Core.List.{List, sum}
use Prim.Native.Nat.{ℕ, zero, suc, ◌+◌, ◌-◌, ◌≤◌, ◌<◌}
use native.Mathlib.Nat.{add-zero}
use native.Mathlib.Numerals.{add-one}
use native.Mathlib.Omega.{arith}
use lib.Dec.{eqb}
use lib.ListN.{length, get_or, set, replicate, length-set, length-replicate}
use lib.Seq.{get_or-set_same, get_or-set_other}
use Rattle.model.specs.Picture.{count_entries}
use Rattle.model.proofs.Tables.{zero_at}
use Rattle.cells.proofs.Adding.{sum_last, grown}
use Rattle.counting.specs.Counting.{together, of_panel, Counted}

together_more : (booked : List ℕ) (k : ℕ) → together booked (k + 1) ≡ together booked k + get_or booked k 0
unfolding together
together_more booked k = sum_last (λ (m : ℕ). get_or booked m 0) k

panel_more : (panel : ℕ → ℕ) (booked : List ℕ) (k n : ℕ) → of_panel panel booked (k + 1) n ≡ of_panel panel booked k n + cond (eqb (panel k) n) (get_or booked k 0) 0
unfolding of_panel
panel_more panel booked k n = sum_last (λ (m : ℕ). cond (eqb (panel m) n) (get_or booked m 0) 0) k

-- more patches have no fewer cells
together_rises : (booked : List ℕ) (k d : ℕ) → together booked k ≤ together booked (k + d)
together_rises booked k zero = rw (add-zero k) (omega arith)
together_rises booked k (suc d) =
    let e : k + suc d ≡ (k + d) + 1 = omega arith in
    rw e (omega (arith, together_rises booked k d, together_more booked (k + d)))

at_most : (b : Bool) (v : ℕ) → cond b v 0 ≤ v
at_most true v = omega arith
at_most false v = omega arith

-- a panel has no more cells than all have
none_within : (panel : ℕ → ℕ) (booked : List ℕ) (n : ℕ) → of_panel panel booked 0 n ≤ together booked 0
unfolding of_panel together
none_within panel booked n = omega arith

panel_within : (panel : ℕ → ℕ) (booked : List ℕ) (k n : ℕ) → of_panel panel booked k n ≤ together booked k
panel_within panel booked zero n = none_within panel booked n
panel_within panel booked (suc k) n =
    subst (λ (m : ℕ). of_panel panel booked m n ≤ together booked m) (add-one k)
    (omega (
      arith,
      panel_more panel booked k n,
      together_more booked k,
      at_most (eqb (panel k) n) (get_or booked k 0),
      panel_within panel booked k n,
    ))

-- the first k patches have added theirs
pub record AddedUpTo (panel : ℕ → ℕ) (booked : List ℕ) (cells : ℕ) (totals : List ℕ) (rest k : ℕ) : Type 0 where
  pub bound : k ≤ length booked
  pub entries : length totals ≡ count_entries
  pub each : (n : ℕ) → n < count_entries → get_or totals n 0 ≡ of_panel panel booked k n
  pub left : rest + together booked k ≡ cells

module _ {panel : ℕ → ℕ} {booked : List ℕ} {cells : ℕ} where
  pub added_starts : (before : List ℕ) {totals : List ℕ} → length before ≡ count_entries → totals ≡ replicate (length before) 0 → AddedUpTo panel booked cells totals cells 0
  unfolding of_panel together sum
  added_starts before e z =
      record {
        bound = omega arith;
        entries = rw z (length-replicate (length before) 0 ∙ e);
        each = λ n l. rw z (zero_at (length before) n);
        left = add-zero cells;
      }

  module _ {totals : List ℕ} {rest k : ℕ} (inv : AddedUpTo panel booked cells totals rest k) (h : k < length booked) (within : together booked (length booked) ≤ cells) where
    -- the cells of patch k are among those that are left
    pub own_left : get_or booked k 0 ≤ rest
    own_left =
        let e : (k + 1) + (length booked - (k + 1)) ≡ length booked = omega arith in
        omega (arith, inv.left, together_more booked k, subst (λ (n : ℕ). together booked (k + 1) ≤ together booked n) e (together_rises booked (k + 1) (length booked - (k + 1))))

    -- a count stays within the picture's cells
    pub count_within : (n : ℕ) → n < count_entries → get_or totals n 0 + get_or booked k 0 ≤ cells
    count_within n l = omega (arith, inv.each n l, inv.left, panel_within panel booked k n, own_left)

    pub added_goes :
        {p : ℕ} → p ≡ panel k → p < count_entries →
        AddedUpTo panel booked cells (set totals p (get_or totals p 0 + get_or booked k 0)) (rest - get_or booked k 0) (k + 1)
    added_goes {p} e l =
        let own : ℕ = get_or booked k 0 in
        record {
          bound = omega arith;
          entries = length-set totals p (get_or totals p 0 + own) ∙ inv.entries;
          each = λ n m.
              omega (
                arith,
                grown totals p own n (omega (arith, inv.entries)),
                ap (λ (q : ℕ). cond (eqb q n) own 0) e,
                inv.each n m,
                panel_more panel booked k n,
              );
          left = omega (arith, inv.left, own_left, together_more booked k);
        }

  pub added_ends : {totals : List ℕ} {rest k : ℕ} → AddedUpTo panel booked cells totals rest k → length booked ≤ k → Counted panel booked cells (set totals 0 rest)
  added_ends {totals} {rest} {k} inv h =
      let e : k ≡ length booked = omega (arith, inv.bound) in
      record {
        entries = length-set totals 0 rest ∙ inv.entries;
        each = λ n positive l. get_or-set_other totals 0 n rest 0 (λ z. omega arith) ∙ inv.each n l ∙ rw e;
        rest = rw (get_or-set_same totals 0 rest 0 (omega (arith, inv.entries)), sym e) inv.left;
      }
