-- A walk is painted patch after patch, until it is done or every row is full.
use mathlib.Core.Path.{◌≡◌, refl, subst, ◌∙◌}
use mathlib.Core.Logic.{◌⊎◌, inl, inr, ⊎_elim}
use mathlib.Core.Bool.{false}
use mathlib.Core.List.{List, map}
use Prim.Native.Nat.{ℕ, ◌+◌, ◌≤◌, ◌<◌}
use native.Mathlib.Omega.{arith}
use lib.ListN.{length, get_or, take, drop, take-append-drop}
use lib.Seq.{take_all}
use Rattle.std.specs.Prelude.{Option, None, Some}
use Rattle.std.specs.Option.{MatchOption, unwrap_or}
use Rattle.model.specs.Format.{decode, patch_numbered}
use Rattle.model.proofs.Tests.{lt_or_ge}
use Rattle.geometry.specs.Machine.{vec_of}
use Rattle.geometry.specs.Raster.{line_at}
use Rattle.edges.specs.declared.Sight.{Sight}
use Rattle.rows.specs.declared.RowUnderWork.{RowUnderWork}
use Rattle.rows.specs.Span.{no_row}
use Rattle.scanline.specs.Shown.{unlit_after}
use Rattle.scanline.proofs.WalkPainted.{row_full, walk_ends, full_more}
use Rattle.conversion.specs.Booked.{Booked}
use Rattle.conversion.specs.Progress.{WalkPainted}
use Rattle.conversion.proofs.PatchBooked.{full_booked}
use Rattle.traversal.specs.Walk.{FullUpTo, FirstOpen, WholePainted}

-- ---- the first row that is not full

module _ (rows : List RowUnderWork) where
  abbrev pub IsFull : ℕ → Type 0
  IsFull j = get_or (get_or rows j no_row).pairs 1 0 ≡ 0

  pub open_found :
      {from height : ℕ} → from ≤ height → (found : Option ℕ) →
      MatchOption found ((j : ℕ) → from ≤ j → j < height → IsFull j)
      (λ r. (from ≤ r) × (r < height) × (IsFull r → ⊥) × ((j : ℕ) → from ≤ j → j < r → IsFull j)) →
      FirstOpen rows from height (unwrap_or found height)
  open_found h None full = record { before = record { above = h; below = omega arith; full = full }; is_open = λ l. absurd (omega arith) }
  open_found h (Some r) m =
      record { before = record { above = m.0; below = omega (arith, m.1); full = m.3 }; is_open = λ l. m.2 }

-- ---- the walk

module _ (bytes : List ℕ) (s : Sight) (order : List ℕ) where
  -- no column of row j is unlit after k patches
  abbrev pub Full : ℕ → ℕ → Type 0
  Full k j = (i : ℕ) → i < s.raster.width → unlit_after (vec_of s.eye) (λ (i : ℕ). line_at s.raster i j) (map (patch_numbered (decode bytes)) (take k order)) i ≡ false

-- the first k patches are painted, and the rows before row `top` are full
pub record Going
    (bytes : List ℕ) (s : Sight) (order : List ℕ) (rows : List RowUnderWork) (picture picture' booked booked' : List ℕ) (top k : ℕ) : Type 0 where
  pub most : k ≤ length order
  pub below : top ≤ s.raster.height
  pub full : (j : ℕ) → j < top → Full bytes s order k j
  pub walk : WalkPainted bytes s order rows picture' booked' k
  pub same_cells : length picture' ≡ length picture
  pub same_entries : length booked' ≡ length booked

module _ {bytes : List ℕ} {s : Sight} {order : List ℕ} {picture booked : List ℕ} where
  pub walk_starts :
      {rows : List RowUnderWork} → WalkPainted bytes s order rows picture booked 0 → Going bytes s order rows picture picture booked booked 0 0
  walk_starts w = record { most = omega arith; below = omega arith; full = λ j h. absurd (omega arith); walk = w; same_cells = refl; same_entries = refl }

  module _ {rows : List RowUnderWork} {picture' booked' : List ℕ} {top k : ℕ} (inv : Going bytes s order rows picture picture' booked booked' top k) where
    -- more rows are found full
    pub found_full : {r : ℕ} → s.raster.width ≤ 256 → FullUpTo rows top s.raster.height r → (j : ℕ) → j < r → Full bytes s order k j
    found_full narrow found j h =
        ⊎_elim (λ (l : j < top). inv.full j l)
        (λ (l : top ≤ j). row_full (inv.walk.each j (omega (arith, found.below))) narrow (found.full j l h))
        (lt_or_ge j top)

    pub walk_goes :
        {rows' : List RowUnderWork} {picture'' booked'' : List ℕ} {r : ℕ} → k < length order → s.raster.width ≤ 256 → FullUpTo rows top s.raster.height r →
        length picture'' ≡ length picture' → length booked'' ≡ length booked' →
        WalkPainted bytes s order rows' picture'' booked'' (k + 1) → Going bytes s order rows' picture picture'' booked booked'' r (k + 1)
    walk_goes h narrow found e f next =
        record {
          most = omega arith;
          below = found.below;
          full = λ j l. full_more (vec_of s.eye) (λ (i : ℕ). line_at s.raster i j) (patch_numbered (decode bytes)) order h (found_full narrow found j l);
          walk = next;
          same_cells = e ∙ inv.same_cells;
          same_entries = f ∙ inv.same_entries;
        }

    -- the walk is done, or every row is full
    pub walk_done : (length order ≤ k) ⊎ ((j : ℕ) → j < s.raster.height → Full bytes s order k j) → WholePainted bytes s order rows picture' booked'
    walk_done (inl h) =
        record {
          each = λ j b. walk_ends (inv.walk.each j b) (inl h);
          booked_are = rw (take_all k order h) at inv.walk.booked_are;
        }
    walk_done (inr full) =
        record {
          each = λ j b. walk_ends (inv.walk.each j b) (inr (full j b));
          booked_are =
              subst
              (λ (ks : List ℕ).
              Booked (vec_of s.eye) (line_at s.raster) (patch_numbered (decode bytes)) ks s.raster.width booked' s.raster.height)
              (take-append-drop k order)
              (full_booked (vec_of s.eye) (line_at s.raster) (patch_numbered (decode bytes)) s.raster.width (take k order) (drop k order) full inv.walk.booked_are);
        }
