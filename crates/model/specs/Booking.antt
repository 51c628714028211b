-- Cells booked patch by patch (document 02, F-2). Patches are told apart by their numbers, their places in the list, as equal patches may stand in it.
use Rattle.std.specs.Prelude.{◌≡◌, Bool, false, not, cond, ◌&&◌, ◌||◌, ℕ, ◌+◌, ◌≤◌, ◌<◌, T, eqb, ltb, length}
use mathlib.Core.List.{List, [], ◌∷◌, map, sum}
use Rattle.model.specs.Lists.{every, range, tally}
use Rattle.model.specs.Vector.{Vec}
use Rattle.model.specs.Patch.{Patch, numbered}
use Rattle.model.specs.Ray.{met, distance, below, precedes}

-- patch k shows before patch m: it precedes it, or neither precedes the other and k stands earlier in the list
abbrev pub shows_before : Vec → Vec → List Patch → ℕ → ℕ → Bool
shows_before eye d ps k m =
    precedes eye d (numbered ps k) (numbered ps m)
    || (not (precedes eye d (numbered ps m) (numbered ps k)) && ltb k m)

-- Patch k has the cell: it is met, and shows before every other patch that is met. Document 02, F-2: "Where two patches of one panel overlap in a plane, the
-- earlier in the list has the cell."
unfoldable pub has_cell : Vec → Vec → List Patch → ℕ → Bool
has_cell eye d ps k =
    met eye d (numbered ps k)
    && every (λ (m : ℕ). eqb m k || not (met eye d (numbered ps m)) || shows_before eye d ps k m) (range 0 (length ps))

-- The same as a relation: it is met; no patch that is met is nearer; of those level with it none is of a lower panel and none of its own panel stands earlier in
-- the list.
pub record HasCell (eye d : Vec) (ps : List Patch) (k : ℕ) : Type 0 where
  pub is_met : T (met eye d (numbered ps k))
  pub nearest :
      (m : ℕ) → m < length ps → T (met eye d (numbered ps m)) →
      T (not (below (distance eye d (numbered ps m)) (distance eye d (numbered ps k))))
  pub lowest :
      (m : ℕ) → m < length ps → T (met eye d (numbered ps m)) →
      T (not (below (distance eye d (numbered ps k)) (distance eye d (numbered ps m)))) →
      (numbered ps k).panel ≤ (numbered ps m).panel
  pub earliest :
      (m : ℕ) → m < length ps → T (met eye d (numbered ps m)) →
      T (not (below (distance eye d (numbered ps k)) (distance eye d (numbered ps m)))) →
      (numbered ps k).panel ≡ (numbered ps m).panel →
      k ≤ m

-- how many cells pass a test
unfoldable pub cells_where : ℕ → ℕ → (ℕ → ℕ → Bool) → ℕ
cells_where width height test =
    sum ◌+◌ 0 (map (λ (j : ℕ). tally (λ (i : ℕ). test i j) (range 0 width)) (range 0 height))

-- Document 02, F-2: "A further lent table (u32, one entry a patch) receives each patch's cells."
unfoldable pub patch_cells : Vec → ℕ → ℕ → (ℕ → ℕ → Vec) → List Patch → List ℕ
patch_cells eye width height direction ps =
    map (λ (k : ℕ). cells_where width height (λ (i j : ℕ). has_cell eye (direction i j) ps k)) (range 0 (length ps))

-- Patch n is the first of a list of patch numbers that a ray meets: what the painting says of a walk front to back. Contracts inside the library cite it, and no public
-- call's does.
unfoldable pub first_is : Vec → Vec → (ℕ → Patch) → List ℕ → ℕ → Bool
first_is eye d patch [] n = false
first_is eye d patch (k ∷ ks) n = cond (met eye d (patch k)) (eqb k n) (first_is eye d patch ks n)
