-- `reach::common_sign` meets its contract.
use mathlib.Core.Path.{ap}
use mir.Syntax.{w64}
use mir.Val.{of_z}
use mir.ValLaws.{to_z-of_z}
use Rattle.integer.proofs.Comparison.{comparisons}
use Rattle.reach.proofs.ColumnSides.{product_fits, last_fits, first_number, last_number, signs_differ, signs_agree}
use Rattle.reach.proofs.common_sign.Goals as goal

pub overflow_mul-slope : goal.overflow_mul-slope
overflow_mul-slope c = product_fits c.eye_product-slope.ensures c.eye_product-start.ensures c.requires.4

pub overflow_add-slope : goal.overflow_add-slope
overflow_add-slope c = last_fits c.eye_product-slope.ensures c.eye_product-start.ensures c.requires.4

pub returns-else-sign-side : goal.returns-else-sign-side
returns-else-sign-side c =
    signs_differ (first_number c.eye_product-slope.ensures c.eye_product-start.ensures c.requires.4)
    (last_number c.eye_product-slope.ensures c.eye_product-start.ensures c.requires.4) c.sign-side.ensures
    c.sign.ensures (λ e. c.if-sign-side.false (ap (of_z w64) e))

pub returns-then-sign-side : goal.returns-then-sign-side
returns-then-sign-side c =
    signs_agree (first_number c.eye_product-slope.ensures c.eye_product-start.ensures c.requires.4)
    (last_number c.eye_product-slope.ensures c.eye_product-start.ensures c.requires.4) c.sign-side.ensures
    c.sign.ensures (search (comparisons, c.if-sign-side.true)) (to_z-of_z w64 c.sign-side.result (record { sfits = c.sign-side.type_inv }))
