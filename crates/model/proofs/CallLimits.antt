-- What questions 10, 14 and 11 say of a call.
use mathlib.Core.Path.{◌≡◌}
use mathlib.Core.Bool.{Bool, ◌&&◌}
use Prim.Native.Nat.{ℕ, ◌+◌, ◌*◌, ◌≤◌}
use native.Mathlib.Omega.{arith}
use lib.Dec.{T, eqb, leb, le→leb, leb→le, eqb→eq}
use lib.IntN.{pos}
use lib.Signed.{lt_z, ◌<ℤ◌}
use Rattle.model.specs.Vector.{dot, cross}
use Rattle.model.specs.View.{Window, Axes, Tile, Camera, View, picture_width, picture_height}
use Rattle.model.specs.Lent.{Lengths}
use Rattle.model.specs.Row.{row_length}
use Rattle.model.specs.Map.{row_words}
use Rattle.model.specs.Picture.{count_entries}
use Rattle.model.specs.Questions.{within, parts_up_to, point_in_range, window_in_range, tile_in_window, view_in_range, axes_proper, lengths_fit}
use Rattle.model.proofs.Tests.{both}

module _ (low high n : ℕ) (t : T (within low high n)) where
  at_least : low ≤ n
  at_least = leb→le low n ((both (leb low n) (leb n high)).0 t).0

  at_most : n ≤ high
  at_most = leb→le n high ((both (leb low n) (leb n high)).0 t).1

pub within_more : (low high more n : ℕ) → high ≤ more → T (within low high n) → T (within low more n)
within_more low high more n h t =
    (both (leb low n) (leb n more)).1
    (((both (leb low n) (leb n high)).0 t).0, le→leb n more (omega (arith, at_most low high n t)))

-- what the range says of a window
record WindowBounded (w : Window) : Type 0 where
  wide : w.width ≤ 1024
  high : w.height ≤ 512
  lens_some : 1 ≤ w.lens
  lens_most : w.lens ≤ 4096

window_bounded : (w : Window) → T (window_in_range w) → WindowBounded w
window_bounded w t =
    let a = (both (within 1 1024 w.width && within 1 512 w.height) (within 1 4096 w.lens)).0 t in
    let b = (both (within 1 1024 w.width) (within 1 512 w.height)).0 a.0 in
    record {
      wide = at_most 1 1024 w.width b.0;
      high = at_most 1 512 w.height b.1;
      lens_some = at_least 1 4096 w.lens a.1;
      lens_most = at_most 1 4096 w.lens a.1;
    }

-- a tile "wholly inside" a window, and not empty; no wider and no higher than a row and the lists have room for
pub record TileInside (w : Window) (t : Tile) : Type 0 where
  pub narrow : t.width ≤ 256
  pub low : t.height ≤ 128
  pub some_columns : 1 ≤ t.width
  pub some_rows : 1 ≤ t.height
  pub columns : t.left + t.width ≤ w.width
  pub rows : t.top + t.height ≤ w.height

pub tile_inside : (w : Window) (t : Tile) → T (tile_in_window w t) → TileInside w t
tile_inside w t said =
    let width : Bool = within 1 256 t.width in
    let height : Bool = within 1 128 t.height in
    let columns : Bool = leb (t.left + t.width) w.width in
    let rows : Bool = leb (t.top + t.height) w.height in
    let a = (both (width && height && columns) rows).0 said in
    let b = (both (width && height) columns).0 a.0 in
    let c = (both width height).0 b.0 in
    record {
      narrow = at_most 1 256 t.width c.0;
      low = at_most 1 128 t.height c.1;
      some_columns = at_least 1 256 t.width c.0;
      some_rows = at_least 1 128 t.height c.1;
      columns = leb→le (t.left + t.width) w.width b.1;
      rows = leb→le (t.top + t.height) w.height a.1;
    }

-- The eye is in range, the window no larger than the rules let pass, the lens from 1 to 4,096, and the tile inside the window.
pub record ViewBounded (v : View) : Type 0 where
  pub point : T (point_in_range v.eye)
  pub wide : v.camera.window.width ≤ 1024
  pub high : v.camera.window.height ≤ 512
  pub lens_some : 1 ≤ v.camera.window.lens
  pub lens_most : v.camera.window.lens ≤ 4096
  pub tile_said : T (tile_in_window v.camera.window v.camera.tile)
  pub narrow : picture_width v ≤ 256
  pub low : picture_height v ≤ 128
  pub inside : TileInside v.camera.window v.camera.tile

pub view_bounded : (v : View) → T (view_in_range v) → ViewBounded v
unfolding view_in_range
view_bounded v said =
    let w = v.camera.window in
    let t = v.camera.tile in
    let a = (both (point_in_range v.eye && window_in_range w) (tile_in_window w t)).0 said in
    let b = (both (point_in_range v.eye) (window_in_range w)).0 a.0 in
    let window = window_bounded w b.1 in
    let tile = tile_inside w t a.1 in
    record {
      point = b.0;
      wide = window.wide;
      high = window.high;
      lens_some = window.lens_some;
      lens_most = window.lens_most;
      tile_said = a.1;
      narrow = tile.narrow;
      low = tile.low;
      inside = tile;
    }

-- the vectors are short, and turn as right, forward and up of a level camera do
pub record AxesBounded (a : Axes) : Type 0 where
  pub right_short : T (parts_up_to 100 a.right)
  pub forward_short : T (parts_up_to 100 a.forward)
  pub up_short : T (parts_up_to 100 a.up)
  pub turning : pos 0 <ℤ dot a.right (cross a.forward a.up)

pub axes_bounded : (a : Axes) → T (axes_proper a) → AxesBounded a
unfolding axes_proper
axes_bounded a t =
    let r : Bool = parts_up_to 100 a.right in
    let f : Bool = parts_up_to 100 a.forward in
    let u : Bool = parts_up_to 100 a.up in
    let rfu = (both (r && f && u) (lt_z (pos 0) (dot a.right (cross a.forward a.up)))).0 t in
    let rf = (both (r && f) u).0 rfu.0 in
    let r_and_f = (both r f).0 rf.0 in
    record {
      right_short = r_and_f.0;
      forward_short = r_and_f.1;
      up_short = rf.1;
      turning = record { lt = rfu.1 };
    }

-- each buffer has the length that it is to have: one more buffer is one more line in each of these
pub record LengthsRight (a : Camera) (patches : ℕ) (l : Lengths) : Type 0 where
  pub cells : l.picture ≡ a.tile.width * a.tile.height
  pub entries : l.counts ≡ count_entries
  pub booked : l.patch_counts ≡ patches
  pub rows : l.unlit ≡ a.tile.height * row_length
  pub words : l.lit ≡ a.tile.height * row_words

pub lengths_right : (a : Camera) (patches : ℕ) (l : Lengths) → T (lengths_fit a patches l) → LengthsRight a patches l
unfolding lengths_fit
lengths_right a patches l fit =
    let t = a.tile in
    let c : Bool = eqb l.picture (t.width * t.height) in
    let n : Bool = eqb l.counts count_entries in
    let b : Bool = eqb l.patch_counts patches in
    let u : Bool = eqb l.unlit (t.height * row_length) in
    let m = (both (c && n && b && u) (eqb l.lit (t.height * row_words))).0 fit in
    let p = (both (c && n && b) u).0 m.0 in
    let q = (both (c && n) b).0 p.0 in
    let r = (both c n).0 q.0 in
    record {
      cells = eqb→eq l.picture (t.width * t.height) r.0;
      entries = eqb→eq l.counts count_entries r.1;
      booked = eqb→eq l.patch_counts patches q.1;
      rows = eqb→eq l.unlit (t.height * row_length) p.1;
      words = eqb→eq l.lit (t.height * row_words) m.1;
    }
