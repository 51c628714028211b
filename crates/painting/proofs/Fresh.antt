-- Fresh rows and cleared cells are those of a walk of which no patch is painted yet.
use mathlib.Core.Path.{◌≡◌, sym, ap, subst, ◌∙◌}
use mathlib.Core.Bool.{true}
use mathlib.Core.List.{List, [], ◌∷◌}
use Prim.Native.Nat.{ℕ, ◌+◌, ◌*◌, ◌≤◌, ◌<◌}
use native.Mathlib.Nat.{mul_comm}
use native.Mathlib.Omega.{arith}
use lib.ListN.{drop, replicate, length-replicate, get_or-replicate}
use lib.Seq.{ext_get_or, get_or-take, get_or-drop}
use Rattle.model.specs.Format.{decode, patch_numbered}
use Rattle.model.specs.Row.{row_of}
use Rattle.model.proofs.Tables.{zero_at}
use Rattle.segments.proofs.Mapped.{fresh_map}
use Rattle.geometry.specs.Machine.{vec_of}
use Rattle.geometry.specs.Raster.{line_at}
use Rattle.edges.specs.declared.Sight.{Sight}
use Rattle.rows.specs.declared.RowUnderWork.{RowUnderWork}
use Rattle.rows.specs.Span.{no_row}
use Rattle.scanline.proofs.WalkPainted.{walk_starts}
use Rattle.conversion.specs.Canvas.{row_part}
use Rattle.conversion.specs.Booked.{Booked}
use Rattle.conversion.specs.Progress.{WalkPainted}
use Rattle.conversion.proofs.Parts.{part_long, row_inside}
use Rattle.conversion.proofs.PatchBooked.{none_booked}

-- a row of cleared cells
cleared_row : (width j n : ℕ) → j * width + width ≤ n → row_part width j (replicate n 0) ≡ replicate width 0
cleared_row width j n h =
    ext_get_or 0 _ _ (part_long width j (replicate n 0) (rw (length-replicate n (ℕ.zero)) h) ∙ sym (length-replicate width 0))
    (λ i l.
    let b : i < width = omega (arith, part_long width j (replicate n 0) (rw (length-replicate n (ℕ.zero)) h)) in
    get_or-take width (drop (j * width) (replicate n 0)) i 0 b ∙ get_or-drop (j * width) (replicate n 0) i 0 ∙ zero_at n (j * width + i) ∙ sym (zero_at width i))

pub walk_fresh :
    (bytes : List ℕ) (s : Sight) (order : List ℕ) {row : RowUnderWork} {picture booked : List ℕ} (n m : ℕ) →
    s.raster.height ≤ 128 → row.pairs ≡ row_of s.raster.width (λ (i : ℕ). true) → row.words ≡ 0 ∷ 0 ∷ 0 ∷ 0 ∷ [] → n ≡ s.raster.width * s.raster.height → picture ≡ replicate n 0 → booked ≡ replicate m 0 →
    WalkPainted bytes s order (replicate 128 row) picture booked 0
walk_fresh bytes s order {row} {picture} {booked} n m low fresh zeros size cells none =
    record {
      each = λ j b.
          walk_starts
          (ap (row_part s.raster.width j) cells ∙ cleared_row s.raster.width j n (row_inside s.raster.width n (omega (arith, size, mul_comm s.raster.width s.raster.height)) b))
          (ap (λ (r : RowUnderWork). r.pairs) (get_or-replicate 128 j row no_row (omega (arith, low))) ∙ fresh)
          (ap (λ (r : RowUnderWork). r.words) (get_or-replicate 128 j row no_row (omega (arith, low))) ∙ zeros ∙ fresh_map s.raster.width);
      booked_are =
          subst (λ (l : List ℕ). Booked (vec_of s.eye) (line_at s.raster) (patch_numbered (decode bytes)) [] s.raster.width l s.raster.height) (sym none)
          (none_booked (vec_of s.eye) (line_at s.raster) (patch_numbered (decode bytes)) s.raster.width m s.raster.height);
    }
