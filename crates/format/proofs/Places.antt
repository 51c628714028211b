-- The corner places of a patch in hand.
use mathlib.Core.Path.{◌≡◌, sym, ap, ◌∙◌, subst}
use mathlib.Core.List.{List, map}
use Prim.Native.Nat.{ℕ, ◌+◌, ◌*◌, ◌≤◌, ◌<◌}
use native.Mathlib.Omega.{arith}
use lib.IntN.{ℤ, pos}
use lib.ListN.{length, get_or, set, length-set}
use lib.Seq.{get_or-set_same, get_or-set_other}
use borrow.Author.Count.{below_none, below_more}
use Rattle.model.specs.Format.{i16_at, point_at, decode, patch_numbered}
use Rattle.model.specs.Vector.{vec}
use Rattle.model.specs.Format as model
use Rattle.format.specs.declared.layout.Layout.{Layout}
use Rattle.format.specs.declared.records.Run.{Run}
use Rattle.format.specs.declared.records.PatchRecord.{PatchRecord}
use Rattle.format.specs.declared.patch.Patch.{Patch}
use Rattle.format.specs.Machine.{patch_record_of}
use Rattle.format.specs.Layout.{LaidOut, RunsInside, Inside, corners_start, patch_number, corner_number}
use Rattle.format.specs.Patch.{CoordinatesFrom, PatchIs, patch_from, corner_of}
use Rattle.format.proofs.Made.{vec_made}
use Rattle.model.specs.Lists.{range}
use Rattle.model.proofs.Tables.{same_table}
use Rattle.format.proofs.Decoded.{table_patch, patch_numbered_lem, patch_corners}

-- while an axis is read: the first k places are filled
pub record Filled (bytes : List ℕ) (at count : ℕ) (places : List ℤ) (k : ℕ) : Type 0 where
  pub eight : length places ≡ 8
  pub most : k ≤ count
  pub filled : CoordinatesFrom bytes at k places

pub none_filled : (bytes : List ℕ) (at count : ℕ) {places : List ℤ} → length places ≡ 8 → Filled bytes at count places 0
none_filled bytes at count e = record { eight = e; most = omega arith; filled = record { coordinate = below_none _ } }

pub one_filled :
    (bytes : List ℕ) (at count : ℕ) {places : List ℤ} {k : ℕ} {z : ℤ} →
    Filled bytes at count places k →
    k < count →
    count ≤ 8 →
    z ≡ i16_at bytes (at + 6 * k) → Filled bytes at count (set places k z) (k + 1)
one_filled bytes at count {places} {k} {z} f h few e =
    let inside : k < length places = omega (arith, f.eight) in
    record {
      eight = length-set places k z ∙ f.eight;
      most = omega arith;
      filled =
          record {
            coordinate =
                below_more _ k
                (λ j below. get_or-set_other places k j z (pos 0) (omega arith) ∙ f.filled.coordinate j below)
                (get_or-set_same places k z (pos 0) inside ∙ e);
          };
    }

pub all_filled :
    {bytes : List ℕ} {at count : ℕ} {places : List ℤ} {k : ℕ} →
    Filled bytes at count places k →
    count ≤ k →
    CoordinatesFrom bytes at count places
all_filled f h = record { coordinate = λ j below. f.filled.coordinate j (omega arith) }

-- ---- three axes make the corners
module _ (bytes : List ℕ) (at count : ℕ) {x y z : List ℤ} (fx : CoordinatesFrom bytes at count x)
    (fy : CoordinatesFrom bytes (at + 2) count y)
    (fz : CoordinatesFrom bytes (at + 4) count z) where
  corner_placed :
      (k : ℕ) →
      k < count →
      vec (get_or x k (pos 0)) (get_or y k (pos 0)) (get_or z k (pos 0)) ≡ point_at bytes (at + 6 * k)
  unfolding point_at
  corner_placed k h =
      vec_made (fx.coordinate k h) (fy.coordinate k h ∙ ap (i16_at bytes) (omega arith))
      (fz.coordinate k h ∙ ap (i16_at bytes) (omega arith))

  module _ (panel : ℕ) where
    abbrev placed : Patch
    placed = record { x = x; y = y; z = z; count = count; panel = panel }

    corners_placed : map (corner_of placed) (range 0 count) ≡ (patch_from bytes at count panel).corners
    corners_placed =
        same_table (corner_of placed) (λ (k : ℕ). point_at bytes (at + 6 * k)) 0 0 count
        (λ k h. corner_placed (0 + k) (omega arith))

    pub patch_placed : 3 ≤ count → count ≤ 8 → PatchIs (patch_from bytes at count panel) placed
    patch_placed three eight =
        record { value = λ i. record { panel = panel; corners = corners_placed i }; three = three; eight = eight }

-- ---- the patch by its number
-- what is known of a patch's corner run
pub record RunKnown (bytes : List ℕ) (l : Layout) (run : Run) : Type 0 where
  pub room : corners_start l + 6 * run.first + 6 * run.count ≤ length bytes
  pub inside : run.first + run.count ≤ l.corners
  pub three : 3 ≤ run.count
  pub eight : run.count ≤ 8

module _ {bytes : List ℕ} {l : Layout} {k : ℕ} {p : PatchRecord} (laid : LaidOut bytes l) (runs : RunsInside bytes l) (h : k < l.patches)
    (e : patch_record_of p ≡ patch_number bytes l k) where
  pub run_known : RunKnown bytes l p.corners
  run_known =
      let inside : p.corners.first + p.corners.count ≤ l.corners = (subst (λ (r : model.PatchRecord). Inside l.corners r.corner_run) (sym e) (runs.corners k h)).inside in
      record {
        room = omega (arith, laid.whole);
        inside = inside;
        three = subst (λ (r : model.PatchRecord). 3 ≤ r.corner_run.count) (sym e) (runs.three k h);
        eight = subst (λ (r : model.PatchRecord). r.corner_run.count ≤ 8) (sym e) (runs.eight k h);
      }

  from_table :
      map (λ (j : ℕ). point_at bytes (corners_start l + 6 * p.corners.first + 6 * j)) (range 0 p.corners.count)
      ≡ map (corner_number bytes l) (range p.corners.first p.corners.count)
  from_table = same_table _ (corner_number bytes l) 0 p.corners.first p.corners.count (λ j b. ap (point_at bytes) (omega arith))

  pub patch_found : {r : Patch} → PatchIs (patch_from bytes (corners_start l + 6 * p.corners.first) p.corners.count p.panel) r →
      PatchIs (patch_numbered (decode bytes) k) r
  patch_found is =
      record {
        value =
            is.value
            ∙ (λ i. record { panel = p.panel; corners = from_table i })
            ∙ ap (table_patch bytes l) e
            ∙ sym (patch_numbered_lem laid k h ∙ patch_corners laid k (runs.corners k h));
        three = is.three;
        eight = is.eight;
      }
