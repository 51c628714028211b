-- With up to 4 corners the next corner of each edge is enough.
use mathlib.Core.Path.{◌≡◌, ◌∙◌}
use mathlib.Core.Bool.{Bool, true, false, cond}
use Prim.Native.Nat.{ℕ, zero, suc, ◌+◌, ◌-◌, ◌≤◌, ◌<◌}
use native.Mathlib.Omega.{arith}
use lib.Dec.{leb}
use borrow.Author.Tests.{le-leb, lt-leb}
use Rattle.projection.specs.Projected.{wrap, asked}

pub next_asked : {n : ℕ} → n ≤ 4 → 1 ≡ asked n
unfolding asked
next_asked {n} h = rw (le-leb n 4 h)

pub all_asked : {n : ℕ} → 4 < n → n - 2 ≡ asked n
unfolding asked
all_asked {n} h = rw (lt-leb n 4 h)

pub asked_others : {n j : ℕ} → 3 ≤ n → j < asked n → j < n - 2
unfolding asked
asked_others {n} {j} h = go (leb n 4)
  where
    go : (t : Bool) → j < cond t 1 (n - 2) → j < n - 2
    go true l = omega arith
    go false l = l

-- a test of three places that does not change when they are read round
module _ (test : ℕ → ℕ → ℕ → Bool) (turned : (i j k : ℕ) → test i j k ≡ test k i j) where
  abbrev at_edge : ℕ → ℕ → ℕ → Bool
  at_edge n k j = test k (wrap n (k + 1)) (wrap n (k + 2 + j))

  -- of 4 corners the turn to the last one is that of the edge before to its next
  last_of_four : ((k : ℕ) → k < 4 → at_edge 4 k 0 ≡ true) → (k : ℕ) → k < 4 → at_edge 4 k 1 ≡ true
  last_of_four next zero h = turned 0 1 3 ∙ next 3 (omega arith)
  last_of_four next (suc zero) h = turned 1 2 0 ∙ next 0 (omega arith)
  last_of_four next (suc (suc zero)) h = turned 2 3 1 ∙ next 1 (omega arith)
  last_of_four next (suc (suc (suc zero))) h = turned 3 0 2 ∙ next 2 (omega arith)
  last_of_four next (suc (suc (suc (suc k)))) h = absurd (omega arith)

  pub all_others :
      (n : ℕ) →
      ((k : ℕ) → k < n → (j : ℕ) → j < asked n → at_edge n k j ≡ true) →
      (k : ℕ) →
      k < n →
      (j : ℕ) →
      j < n - 2 →
      at_edge n k j ≡ true
  all_others zero f k h j l = absurd (omega arith)
  all_others (suc zero) f k h j l = absurd (omega arith)
  all_others (suc (suc zero)) f k h j l = absurd (omega arith)
  all_others (suc (suc (suc zero))) f k h j l = f k h j (omega (arith, next_asked {n = 3} (omega arith)))
  all_others (suc (suc (suc (suc zero)))) f k h zero l = f k h 0 (omega (arith, next_asked {n = 4} (omega arith)))
  all_others (suc (suc (suc (suc zero)))) f k h (suc zero) l =
      last_of_four (λ i b. f i b 0 (omega (arith, next_asked {n = 4} (omega arith)))) k h
  all_others (suc (suc (suc (suc zero)))) f k h (suc (suc j)) l = absurd (omega arith)
  all_others (suc (suc (suc (suc (suc n))))) f k h j l =
      f k h j (omega (arith, all_asked {n = suc (suc (suc (suc (suc n))))} (omega arith)))
