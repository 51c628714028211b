-- The camera that a call's numbers stand for.
use Rattle.model.specs.Vector.{vec}
use Rattle.model.specs.View.{Camera}
use Rattle.contract.specs.Contract.{axes_by, tile_by, camera_by}
use Rattle.comparison.specs.declared.CameraNumbers.{CameraNumbers}

-- three vectors by their parts, the window, and the tile
abbrev pub camera_of : CameraNumbers → Camera
camera_of c =
    camera_by
    (axes_by (vec c.right_x c.right_y c.right_z) (vec c.forward_x c.forward_y c.forward_z) (vec c.up_x c.up_y c.up_z))
    c.width c.height c.lens (tile_by c.left c.top c.tile_width c.tile_height)
