-- `camera::camera_raster` meets its contract: the vectors are the first direction and its changes.
use Rattle.camera.proofs.Rays.{first_column, row_fits, first_row, straight_on, rays_made}
use Rattle.camera.proofs.camera_raster.Goals as goal

-- It stands before the needs on the way, so that an edit of the first direction is refused for what is returned.

pub returns : goal.returns
returns c =
    let pre = c.requires in
    rays_made _ (first_column pre.wide c.from_middle.ensures).value (straight_on pre.lens_within c.from.ensures).value
    (first_row pre.high c.from_middle-2.ensures).value
    c.combined.ensures
    c.scaled.ensures
    c.scaled-2.ensures
    c.from-2.ensures
    c.from-3.ensures

pub combined-requires : goal.combined-requires
combined-requires c =
    let pre = c.requires in (
      (first_column pre.wide c.from_middle.ensures).bounded,
      (straight_on pre.lens_within c.from.ensures).bounded,
      (first_row pre.high c.from_middle-2.ensures).bounded,
      pre.right_bounded,
      pre.forward_bounded,
      pre.up_bounded,
    )

pub from_middle-requires : goal.from_middle-requires
from_middle-requires c = c.requires.first_column

pub from_middle-requires-2 : goal.from_middle-requires-2
from_middle-requires-2 c = c.requires.first_row

pub overflow_sub-from_middle : goal.overflow_sub-from_middle
overflow_sub-from_middle c = row_fits c.requires.high c.from_middle-2.ensures
