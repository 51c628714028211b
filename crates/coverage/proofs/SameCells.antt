-- Cuttings that cover the same points show the same in every cell of every accepted view.
use mathlib.Core.Path.{◌≡◌, fun_ext}
use mathlib.Core.List.{List}
use lib.Dec.{T}
use Rattle.model.specs.Patch.{Patch}
use Rattle.model.specs.View.{View}
use Rattle.model.specs.Beside.{cell_line}
use Rattle.model.specs.Picture.{cell_panel}
use Rattle.model.specs.Questions.{view_in_range, axes_proper}
use Rattle.model.proofs.CallLimits.{view_bounded}
use Rattle.model.proofs.Sizes.{parts_within}
use Rattle.model.proofs.Alike.{Sound}
use Rattle.coverage.specs.Coverage.{SameCover}
use Rattle.coverage.proofs.Generic.{line_generic}
use Rattle.coverage.proofs.Agreement.{covers_matched, cuttings_agree}

-- "From every accepted view their pictures and panel counts must agree, by the joint rule of F-3": what the cells show is one function.
pub same_cells :
    (v : View) → T (view_in_range v) → T (axes_proper v.camera.axes) →
    {ps qs : List Patch} → Sound ps → Sound qs → SameCover ps qs →
    cell_panel v.eye (cell_line v.camera) ps ≡ cell_panel v.eye (cell_line v.camera) qs
same_cells v view axes P Q same =
    let forth = covers_matched (λ n q k h. (same n q k h).0) v.eye in
    let back = covers_matched (λ n q k h. (same n q k h).1) v.eye in
    let eye_within = parts_within 10000 v.eye (view_bounded v view).point in
    fun_ext (λ i. fun_ext (λ j. cuttings_agree eye_within (line_generic v view axes i j) P Q forth back))
