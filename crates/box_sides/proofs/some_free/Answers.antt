-- `box_sides::some_free` meets its contract, axis by axis.
use mathlib.Core.Path.{sym, ◌∙◌}
use Rattle.box_sides.specs.Beyond.{x_free, y_free, z_free}
use Rattle.box_sides.proofs.BoxSides.{free_stored}
use Rattle.box_sides.proofs.some_free.Goals as goal
use Rattle.box_sides.proofs.some_free.Goals.{then-free_axis, else-free_axis}

pub returns-then-free_axis-2 : goal.returns-then-free_axis-2
returns-then-free_axis-2 c =
    let h = c.requires in
    let o = h.0.outer_bounded in
    let i = h.0.inner_bounded in
    elim c.if-free_axis.branch [
      | then-free_axis w ↦
          record {
            says = λ y.
                x_free
                (free_stored h.1.x_within o.low_bounded.x_within o.high_bounded.x_within i.low_bounded.x_within
                i.high_bounded.x_within c.free_axis.ensures w.if-free_axis.true);
          }
      | else-free_axis w ↦
          record {
            says = λ y.
                y_free
                (free_stored h.1.y_within o.low_bounded.y_within o.high_bounded.y_within i.low_bounded.y_within
                i.high_bounded.y_within w.free_axis-else-free_axis.ensures (sym w.value-is ∙ y));
          }
    ]

pub returns-else-free_axis-2 : goal.returns-else-free_axis-2
returns-else-free_axis-2 c =
    let h = c.requires in
    let o = h.0.outer_bounded in
    let i = h.0.inner_bounded in
    record {
      says = λ y.
          z_free
          (free_stored h.1.z_within o.low_bounded.z_within o.high_bounded.z_within i.low_bounded.z_within
          i.high_bounded.z_within c.free_axis-else-free_axis-2.ensures y);
    }
