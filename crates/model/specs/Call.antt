-- The survey call's input.
use Rattle.std.specs.Prelude.{List, ℕ}
use Rattle.model.specs.Vector.{Vec}
use Rattle.model.specs.View.{Camera, View}
use Rattle.model.specs.Station.{Station, view_at}
use Rattle.model.specs.Beside.{tile_line}
use Rattle.model.specs.Lent.{Lengths}

-- the whole input of the survey call: the scene's bytes, the station, the camera, the lent buffers' lengths and the station counter
pub record Call : Type 0 where
  pub scene : List ℕ
  pub station : Station
  pub camera : Camera
  pub lengths : Lengths
  pub counter : ℕ

-- the view of a call
abbrev pub call_view : Call → View
call_view c = view_at c.station c.camera

-- the line by which each cell of a call is read
abbrev pub call_line : Call → ℕ → ℕ → Vec
call_line c i j = tile_line c.camera i j
