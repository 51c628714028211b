-- The counts of a painted scene, from the table of its patches' cells.
use mathlib.Core.Path.{◌≡◌, subst, ◌∙◌}
use mathlib.Core.List.{List}
use Prim.Native.Nat.{ℕ, ◌*◌, ◌≤◌, ◌<◌}
use native.Mathlib.Nat.{mul-le-mul}
use native.Mathlib.Omega.{arith}
use lib.ListN.{length, length-map}
use Rattle.model.specs.View.{View, picture_width, picture_height}
use Rattle.model.specs.Beside.{tile_line}
use Rattle.model.specs.Patch.{Patch, numbered}
use Rattle.model.specs.Format.{decode, patch_table, patch_of, patch_numbered}
use Rattle.model.specs.Picture.{count_entries}
use Rattle.model.specs.Accepted.{AcceptedScene}
use Rattle.model.proofs.Ranges.{get_d_member}
use Rattle.model.proofs.PanelNumbers.{panel_positive, panel_bounded}
use Rattle.format.specs.declared.layout.Layout.{Layout}
use Rattle.format.specs.Layout.{LaidOut}
use Rattle.format.proofs.Decoded.{patch_count}
use Rattle.counting.specs.Counting.{Countable, Counted}
use Rattle.counting.proofs.TableCounts.{table_within, table_counts}
use Rattle.rendering.specs.Painted.{Painted, Rendered}

module _
    {bytes : List ℕ} {l : Layout} {v : View} {cells unlit lit booked : List ℕ}
    (h : AcceptedScene bytes) (laid : LaidOut bytes l) (p : Painted bytes v cells unlit lit booked)
  where
    abbrev ps : List Patch
    ps = patch_table (decode bytes)

    many : length ps ≡ length (decode bytes).patches
    unfolding patch_table
    many = length-map (decode bytes).patches (patch_of (decode bytes).corners)

    positive : (k : ℕ) → k < length ps → 1 ≤ (numbered ps k).panel
    positive k b = panel_positive (decode bytes) h.panels (numbered ps k) (get_d_member ps k _ b)

    -- what counting asks
    pub countable :
        {n : ℕ} {totals : List ℕ} → length booked ≡ length (decode bytes).patches → n ≡ picture_width v * picture_height v →
        picture_width v ≤ 256 → picture_height v ≤ 128 → length totals ≡ count_entries → Countable bytes l booked n totals
    unfolding patch_numbered
    countable {n} e size narrow low entries =
        record {
          patches = e ∙ patch_count laid;
          numbered = λ k b.
              let c : k < length ps = omega (arith, many, patch_count laid) in
              omega (arith, panel_bounded (decode bytes) h.panels (numbered ps k) (get_d_member ps k _ c));
          few = omega (arith, mul-le-mul narrow low);
          within = omega (arith, table_within v.eye (picture_width v) (picture_height v) (tile_line v.camera) ps p.booked_are positive);
          entries = entries;
        }

    -- what it leaves are the counts of the picture
    pub rendered :
        {n k : ℕ} {totals : List ℕ} → n ≡ picture_width v * picture_height v → Counted (λ (k : ℕ). (patch_numbered (decode bytes) k).panel) booked n totals →
        Rendered bytes v (record { picture = cells; counts = totals; patch_counts = booked; unlit = unlit; lit = lit; counter = k })
    unfolding patch_numbered
    rendered {n} {totals = totals} size c =
        record {
          painted = p;
          counts_are =
              table_counts v.eye (picture_width v) (picture_height v) (tile_line v.camera) ps p.booked_are positive
              (subst (λ (m : ℕ). Counted (λ (k : ℕ). (numbered ps k).panel) booked m totals) size c);
        }
