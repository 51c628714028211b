-- A run of cells, painted in a part of a row: its first cells are.
use mathlib.Core.Path.{◌≡◌, sym, ap, ◌∙◌}
use mathlib.Core.Logic.{◌⊎◌, inl, inr}
use mathlib.Core.Bool.{Bool, cond, and-false}
use mathlib.Core.List.{List}
use Prim.Native.Nat.{ℕ, suc, ◌+◌, ◌-◌, ◌≤◌, ◌<◌, min}
use native.Mathlib.Omega.{arith}
use lib.Dec.{ltb}
use lib.ListN.{length, get_or, take, drop, set, replicate, length-set, length-take, length-drop, length-replicate, get_or-append}
use lib.Seq.{get_or-set_same, get_or-set_other}
use borrow.Author.Tests.{lt-ltb, le-ltb, le-leb, lt-leb}
use borrow.Rule.Slice.PartMut.{put_mid, mid_of, same_len_mid}
use Rattle.std.proofs.lemmas.List.{get_or-replicate, get_or-append_right, get_or-take, get_or-drop}
use native.Mathlib.Decide.{ℕ_discrete}
use Rattle.segments.specs.Columns.{in_span, painted}
use Rattle.model.proofs.Tests.{lt_or_ge}
use Rattle.segments.proofs.Tests.{same_le}
use Rattle.segments.proofs.Painting.{painted_length, painted_at, painted_is, painted_congr, painted_none}

-- the first `count` cells of a part
abbrev pub front : ℕ → ℕ → List ℕ → List ℕ
front count panel part = painted (λ (i : ℕ). ltb i count) panel part

-- so are they where the panel alone is left
pub front_all : (count panel : ℕ) (part part' : List ℕ) → length part ≡ count → part' ≡ replicate (length part) panel → part' ≡ front count panel part
front_all count panel part part' l e =
    painted_is (λ (i : ℕ). ltb i count) panel part part' (rw e (length-replicate (length part) panel))
    (λ j h. rw (e, lt-ltb j count (omega arith)) (get_or-replicate (length part) j panel 0 h))

-- the loop that writes a part's cells one after the other: those before cell i are written
pub record FrontTo (count panel : ℕ) (part₀ part : List ℕ) (i : ℕ) : Type 0 where
  pub cells_are : part ≡ front (min i count) panel part₀

pub front_starts : (count panel : ℕ) (part : List ℕ) → FrontTo count panel part part 0
front_starts count panel part =
    record { cells_are = sym (painted_none (λ (j : ℕ). ltb j (min 0 count)) panel part (λ j h. le-ltb j (min 0 count) (omega arith))) }

module _ {count panel : ℕ} {part₀ part : List ℕ} {i : ℕ} (inv : FrontTo count panel part₀ part i) (b : i < length part₀) where
  front_length : length part ≡ length part₀
  front_length = rw inv.cells_are (painted_length (λ (j : ℕ). ltb j (min i count)) panel part₀)

  -- a cell before its turn is as it was
  unpainted : get_or part i 0 ≡ get_or part₀ i 0
  unpainted =
      ap (λ (xs : List ℕ). get_or xs i 0) inv.cells_are
      ∙ painted_at (λ (m : ℕ). ltb m (min i count)) panel part₀ i b
      ∙ rw (le-ltb i (min i count) (omega arith))

  pub front_goes : (cell : ℕ) → cell ≡ cond (ltb i count) panel (get_or part i 0) → FrontTo count panel part₀ (set part i cell) (i + 1)
  front_goes cell w =
      record {
        cells_are =
            painted_is (λ (j : ℕ). ltb j (min (i + 1) count)) panel part₀ (set part i cell) (length-set part i cell ∙ front_length)
            (λ j h. at j h (ℕ_discrete j i));
      }
    where
      at : (j : ℕ) → j < length part₀ → Dec (j ≡ i) → get_or (set part i cell) j 0 ≡ cond (ltb j (min (i + 1) count)) panel (get_or part₀ j 0)
      at j h (yes e) =
          rw e (get_or-set_same part i cell 0 (omega (arith, front_length))
          ∙ w
          ∙ ap (λ (c : ℕ). cond (ltb i count) panel c) unpainted
          ∙ ap (λ (t : Bool). cond t panel (get_or part₀ i 0)) (same_le (suc i) count (suc i) (min (i + 1) count) (λ a. omega arith) (λ a. omega arith)))
      at j h (no n) =
          get_or-set_other part i j cell 0 n
          ∙ ap (λ (xs : List ℕ). get_or xs j 0) inv.cells_are
          ∙ painted_at (λ (m : ℕ). ltb m (min i count)) panel part₀ j h
          ∙ ap (λ (t : Bool). cond t panel (get_or part₀ j 0)) (same_le (suc j) (min i count) (suc j) (min (i + 1) count) (λ a. omega arith) (λ a. omega (arith, n)))

pub front_ends :
    {count panel : ℕ} {part₀ part : List ℕ} {i : ℕ} → FrontTo count panel part₀ part i → length part₀ ≤ i → part ≡ front count panel part₀
front_ends {count} {panel} {part₀} {part} {i} inv h =
    inv.cells_are
    ∙ painted_congr (λ (j : ℕ). ltb j (min i count)) (λ (j : ℕ). ltb j count) panel part₀
    (λ j b. same_le (suc j) (min i count) (suc j) count (λ a. omega arith) (λ a. omega arith))

-- a part of the row, whose first cells are painted
module _ (from count k panel : ℕ) (cells part : List ℕ) (inside : from + k ≤ length cells) (few : count ≤ k) (part_is : part ≡ front count panel (mid_of from k cells)) where
  part_length : length part ≡ k
  part_length =
      ap length part_is ∙ painted_length (λ (i : ℕ). ltb i count) panel (mid_of from k cells) ∙ simp (length-take, length-drop) (omega arith)

  whole_length : length (put_mid from k cells part) ≡ length cells
  whole_length = same_len_mid from k cells part (ap length part_is ∙ painted_length (λ (i : ℕ). ltb i count) panel (mid_of from k cells))

  lead : length (take from cells) ≡ from
  lead = simp length-take (omega arith)

  before_part : (j : ℕ) → j < from → get_or (put_mid from k cells part) j 0 ≡ get_or cells j 0
  before_part j h = get_or-append (take from cells) _ 0 j (omega (arith, lead)) ∙ get_or-take from cells j 0 h

  in_part : (j : ℕ) → from ≤ j → j < from + k → get_or (put_mid from k cells part) j 0 ≡ get_or part (j - from) 0
  in_part j a b = get_or-append_right (take from cells) _ from j 0 lead a ∙ get_or-append part _ 0 (j - from) (omega (arith, part_length))

  after_part : (j : ℕ) → from + k ≤ j → get_or (put_mid from k cells part) j 0 ≡ get_or cells j 0
  after_part j a =
      get_or-append_right (take from cells) _ from j 0 lead (omega arith)
      ∙ get_or-append_right part _ k (j - from) 0 part_length (omega arith)
      ∙ get_or-drop k (drop from cells) (j - from - k) 0
      ∙ get_or-drop from cells (k + (j - from - k)) 0
      ∙ ap (λ (n : ℕ). get_or cells n 0) (omega arith)

  pub span_painted : (first to : ℕ) → from ≡ first → to + 1 ≡ from + count → put_mid from k cells part ≡ painted (in_span first to) panel cells
  span_painted first to f e =
      rw (← f)
      (painted_is (in_span from to) panel cells (put_mid from k cells part) whole_length (λ j h. at j h (lt_or_ge j from) (lt_or_ge j (from + k))))
    where
      inner : (j : ℕ) → from ≤ j → j < from + k → get_or part (j - from) 0 ≡ cond (ltb (j - from) count) panel (get_or cells j 0)
      inner j a b =
          ap (λ (xs : List ℕ). get_or xs (j - from) 0) part_is
          ∙ painted_at (λ (i : ℕ). ltb i count) panel (mid_of from k cells) (j - from) (omega (arith, length-take k (drop from cells), length-drop from cells))
          ∙ ap (λ (c : ℕ). cond (ltb (j - from) count) panel c)
          (get_or-take k (drop from cells) (j - from) 0 (omega arith) ∙ get_or-drop from cells (j - from) 0 ∙ ap (λ (n : ℕ). get_or cells n 0) (omega arith))

      at : (j : ℕ) → j < length cells → (j < from) ⊎ (from ≤ j) → (j < from + k) ⊎ (from + k ≤ j) →
          get_or (put_mid from k cells part) j 0 ≡ cond (in_span from to j) panel (get_or cells j 0)
      at j h (inl a) _ = before_part j a ∙ rw (lt-leb from j a)
      at j h (inr a) (inl b) =
          in_part j a b
          ∙ inner j a b
          ∙ rw (le-leb from j a)
          (ap (λ (t : Bool). cond t panel (get_or cells j 0)) (same_le (suc (j - from)) count j to (λ x. omega arith) (λ x. omega arith)))
      at j h (inr a) (inr b) = after_part j b ∙ rw (lt-leb j to (omega arith), and-false)
