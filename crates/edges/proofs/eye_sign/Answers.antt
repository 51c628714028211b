-- `edges::eye_sign` meets its contract: the three corners are the patch's first ones.
use mathlib.Core.Path.{◌∙◌}
use native.Mathlib.Omega.{arith}
use Rattle.edges.proofs.Places.{sign_passed, sign_made}
use Rattle.edges.proofs.Runs.{run_corner, first_corner}
use Rattle.edges.proofs.eye_sign.Goals as goal

pub returns : goal.returns
returns c =
    let at = c.corner_run-first.ensures in
    let three = at.three in
    sign_passed
    (sign_made (c.corner-a.ensures.value ∙ first_corner at)
    (c.corner-b.ensures.value ∙ run_corner at 1 (omega arith))
    (c.corner-c.ensures.value ∙ run_corner at 2 (omega arith))
    c.plane_normal-normal.ensures.value c.eye_product.ensures c.sign.ensures)
