-- The rows of a raster that a patch can be met in.
use Rattle.std.specs.Prelude.{◌≡◌, false, ℕ, ◌≤◌, ◌<◌, T, ℤ, pos, negsuc, neg_ℤ, ◌<ℤ◌}
use mathlib.Core.List.{List, Memᴰ}
use Rattle.model.specs.Vector.{Vec, minus, dot}
use Rattle.model.specs.Patch.{Patch}
use Rattle.model.specs.Ray.{met}
use Rattle.geometry.specs.declared.Raster.{Raster}
use Rattle.geometry.specs.Raster.{line_at}
use Rattle.spans.specs.declared.Span.{Span}
use Rattle.spans.specs.Span.{covers, Shaped, Clipped}
use Rattle.reach.specs.declared.Planes.{Planes}
use Rattle.reach.specs.declared.Sides.{Sides}
use Rattle.reach.specs.Planes.{normal_at}

-- ---- the rows beside a patch
-- in each row of the span every corner, seen from the eye, lies on the side of the row's plane that the normal, times the sign, points to
pub record OnOneSide (eye : Vec) (n : Planes) (sign : ℤ) (corners : List Vec) (height : ℕ) (r : Span) : Type 0 where
  pub all :
      (j : ℕ) → T (covers r j) → (c : Vec) → Memᴰ c corners → pos 0 <ℤ dot (minus c eye) (normal_at n sign j)
  pub shaped : Shaped height r

pub record SidesBeside (eye : Vec) (n : Planes) (corners : List Vec) (height : ℕ) (r : Sides) : Type 0 where
  pub ahead_beside : OnOneSide eye n (pos 1) corners height r.ahead
  pub behind_beside : OnOneSide eye n (negsuc 0) corners height r.behind

pub record SidesShaped (height : ℕ) (s : Sides) : Type 0 where
  pub ahead_shaped : Shaped height s.ahead
  pub behind_shaped : Shaped height s.behind

-- r has the rows of s where the number is above 0, and where it is below 0
pub record SidesClipped (slope start : ℤ) (s r : Sides) : Type 0 where
  pub ahead_clipped : Clipped slope start s.ahead r.ahead
  pub behind_clipped : Clipped (neg_ℤ slope) (neg_ℤ start) s.behind r.behind

-- no row is lost that is not in s; r begins and ends at an end of the rows or of s
pub record Without (rows s r : Span) : Type 0 where
  pub left :
      (j : ℕ) → rows.first ≤ j → j < rows.end → (s.first ≤ j → j < s.end → ⊥) → (r.first ≤ j) × (j < r.end)
  pub first_limit : (n : ℕ) → rows.first ≤ n → s.end ≤ n → r.first ≤ n
  pub end_limit : (n : ℕ) → rows.end ≤ n → s.first ≤ n → r.end ≤ n

-- ---- the reach of a patch
-- Outside these rows no line that a cell is read along meets the patch. It need not be met in all of them: too wide a reach costs time alone.
pub record Reach (eye : Vec) (r : Raster) (p : Patch) (rows : Span) : Type 0 where
  pub missed :
      (j : ℕ) →
      j < r.height →
      (rows.first ≤ j → j < rows.end → ⊥) →
      (i : ℕ) →
      met eye (line_at r i j) p ≡ false
