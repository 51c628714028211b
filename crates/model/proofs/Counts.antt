-- The counts of a list of panel numbers, and their sum.
use mathlib.Core.Path.{◌≡◌, sym, ap, ◌∙◌}
use mathlib.Core.Bool.{true}
use mathlib.Core.List.{List, sum, Memᴰ}
use Prim.Native.Nat.{ℕ, zero-le, ◌+◌, ◌<◌}
use native.Mathlib.Nat.{zero-add}
use native.Mathlib.Omega.{arith}
use lib.Dec.{eqb}
use lib.ListN.{length, get_or}
use Rattle.model.specs.Lists.{range, occurrences}
use Rattle.model.specs.Picture.{counts, count_entries}
use Rattle.model.proofs.Ranges.{range_at}
use Rattle.model.proofs.Totals.{total, total_cong, total_swap, only, tally_total, tally_all, picked}

-- entry n counts how often n stands in the list
pub counts_at : (xs : List ℕ) (n : ℕ) → n < count_entries → get_or (counts xs) n 0 ≡ occurrences n xs
unfolding counts
counts_at xs n h =
    range_at (λ (n : ℕ). occurrences n xs) 0 count_entries n 0 h ∙ ap (λ (m : ℕ). occurrences m xs) (zero-add n)

-- the counts add up to the list's length, where every number has an entry: each number is counted in one
pub counts_total : (xs : List ℕ) → ((x : ℕ) → Memᴰ x xs → x < count_entries) → sum ◌+◌ 0 (counts xs) ≡ length xs
unfolding counts total
counts_total xs f =
    total_cong (λ (n : ℕ). occurrences n xs) (λ (n : ℕ). total (counted n) xs) entries
    (λ n m. tally_total (λ (x : ℕ). eqb x n) xs)
    ∙ total_swap counted entries xs
    ∙ total_cong (λ (x : ℕ). total (λ (n : ℕ). counted n x) entries) (λ (x : ℕ). 1) xs
    (λ x m. picked (λ (n : ℕ). 1) x 0 count_entries zero-le (λ h. absurd (omega (arith, f x m))))
    ∙ sym (tally_total (λ (x : ℕ). true) xs)
    ∙ tally_all xs
  where
    entries : List ℕ
    entries = range 0 count_entries

    counted : ℕ → ℕ → ℕ
    counted n x = only (eqb x n) 1
