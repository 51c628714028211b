-- A list of zeros, and a loop that clears a list from the front: the numbers below n are 0.
use mathlib.Core.Path.{◌≡◌, refl, ap, ◌∙◌}
use mathlib.Core.List.{List, ◌∷◌, ◌++◌, map, append-nil}
use Prim.Native.Nat.{ℕ, zero, suc, ◌+◌, ◌≤◌, ◌<◌}
use native.Mathlib.Omega.{arith}
use borrow.Author.Fill.{fill_none, fill_more}
use lib.ListN.{length, drop, set, replicate}
use lib.Seq.{drop-length}
use Rattle.model.specs.Lists.{range}

pub zero_table : (a n : ℕ) → map (λ (k : ℕ). ℕ.zero) (range a n) ≡ replicate n 0
zero_table a zero = refl
zero_table a (suc n) = ap (λ (l : List ℕ). 0 ∷ l) (zero_table (suc a) n)

pub record Cleared (before after : List ℕ) (n : ℕ) : Type 0 where
  pub bound : n ≤ length before
  pub after_is : after ≡ replicate n 0 ++ drop n before

pub clear_starts : (l : List ℕ) → Cleared l l 0
clear_starts l = record { bound = omega arith; after_is = fill_none l 0 }

module _ {before after : List ℕ} {n : ℕ} (inv : Cleared before after n) where
  pub clear_goes : n < length before → Cleared before (set after n 0) (n + 1)
  clear_goes h = record { bound = omega arith; after_is = rw inv.after_is (fill_more n 0 before h) }

  pub clear_ends : length before ≤ n → after ≡ replicate (length before) 0
  clear_ends h =
      let e : n ≡ length before = omega (arith, inv.bound) in
      inv.after_is ∙ rw (e, drop-length before) (append-nil (replicate (length before) 0))
