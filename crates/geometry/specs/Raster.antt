-- The rays of a picture, the lines just beside them, and numbers that change evenly over it.
use Rattle.std.specs.Prelude.{◌≡◌, cond, ℕ, ◌*◌, ℤ, pos, ◌+ℤ◌}
use Rattle.std.specs.Int.Signed.{lt_z}
use Rattle.integer.specs.Magnitude.{Within}
use Rattle.model.specs.Vector.{Vec, plus, times, dot, is_zero}
use Rattle.model.specs.Beside.{fine}
use Rattle.geometry.specs.declared.Raster.{Raster}
use Rattle.geometry.specs.declared.EdgeFunction.{EdgeFunction}
use Rattle.geometry.specs.Machine.{vec_of, Bounded}

-- the direction of the ray of column i in row j
abbrev pub ray_at : Raster → ℕ → ℕ → Vec
ray_at r i j = plus (plus (vec_of r.origin) (times (pos i) (vec_of r.across))) (times (pos j) (vec_of r.down))

-- The line that its cell is read along, just beside the ray: with 1 / 10²⁶ of the way to the next column and 1 / 10⁵² of the way to the next row, multiplied out.
unfoldable pub line_at : Raster → ℕ → ℕ → Vec
line_at r i j =
    plus (plus (times (pos (fine * (fine * fine))) (ray_at r i j)) (times (pos (fine * fine)) (vec_of r.across)))
    (times (pos fine) (vec_of r.down))

-- How large a raster is at most: what views with parts within ±100 and windows up to 1,024 by 512 with lenses up to 4,096 need.
pub record RasterBounded (r : Raster) : Type 0 where
  pub origin_bounded : Bounded 563000 r.origin
  pub across_bounded : Bounded 200 r.across
  pub down_bounded : Bounded 200 r.down

-- 1 for a number above 0, 0 for any other
abbrev pub one_above : ℤ → ℤ
one_above n = cond (lt_z (pos 0) n) (pos 1) (pos 0)

-- 1 for an edge that counts in: its number grows from column to column or, the same in all columns, from row to row. A ray that runs along the edge has 0 there, and
-- the line just beside the ray passes on the patch's side. These are a patch's left edges and, of those along a row, its upper ones.
abbrev pub counts_in : ℤ → ℤ → ℤ
counts_in slope drop = one_above (cond (is_zero slope) drop slope)

-- The products of the rays with an edge vector, one more where the edge counts in: above 0 exactly where the line just beside the ray passes on the side that the
-- edge vector points to (`line_seen`, in `edges`).
abbrev pub seen_by : Raster → Vec → EdgeFunction
seen_by r e =
    let slope : ℤ = dot (vec_of r.across) e in
    let drop : ℤ = dot (vec_of r.down) e in
    record { start = dot (vec_of r.origin) e +ℤ counts_in slope drop; slope = slope; drop = drop }

-- how large they are at most, for an edge vector, parts within 800,000,000
pub record FunctionBounded (f : EdgeFunction) : Type 0 where
  pub start_within : Within 1351200000000001 f.start
  pub slope_within : Within 480000000000 f.slope
  pub drop_within : Within 480000000000 f.drop

-- What a function returns: the numbers f are e's, within these bounds.
pub record FunctionIs (e f : EdgeFunction) : Type 0 where
  pub value : f ≡ e
  pub bounded : FunctionBounded f
