-- A patch that lies beside all columns of a raster.
use Rattle.std.specs.Prelude.{◌≡◌, ◌≢◌, ◌↔◌, false, ℕ, ◌<◌, ℤ, pos, ◌+ℤ◌, ◌*ℤ◌}
use mathlib.Core.List.{List, Memᴰ}
use Rattle.integer.specs.Magnitude.{sign_of}
use Rattle.model.specs.Vector.{Vec, minus, dot}
use Rattle.model.specs.Patch.{Patch}
use Rattle.model.specs.Ray.{met}
use Rattle.geometry.specs.declared.Raster.{Raster}
use Rattle.geometry.specs.Machine.{vec_of}
use Rattle.geometry.specs.Raster.{line_at}
use Rattle.reach.specs.declared.Planes.{Planes}

-- The number of a corner for the plane of column i: above 0 ahead of it, where its normal points to, and below 0 behind it.
abbrev pub number_of : Vec → Planes → Vec → ℤ → ℤ
number_of eye n c i = dot (minus c eye) (vec_of n.next) *ℤ i +ℤ dot (minus c eye) (vec_of n.first)

-- r is a sign that is not 0 just where both numbers have that sign
pub record CommonSign (a b r : ℤ) : Type 0 where
  pub is : (sign : ℤ) → sign ≢ pos 0 → (r ≡ sign) ↔ ((sign_of a ≡ sign) × (sign_of b ≡ sign))

-- a corner's numbers for the first column and for the last have this sign
abbrev pub HasSign : Vec → Planes → ℤ → ℤ → Vec → Type 0
HasSign eye n last sign c = (sign_of (number_of eye n c (pos 0)) ≡ sign) × (sign_of (number_of eye n c last) ≡ sign)

-- All corners lie strictly on one side of the planes of the first column and of the last: there all their numbers have one sign, which is not 0.
pub record OneSided (eye : Vec) (n : Planes) (last : ℤ) (corners : List Vec) : Type 0 where
  pub sign : ℤ
  pub strict : sign ≢ pos 0
  pub all : (c : Vec) → Memᴰ c corners → HasSign eye n last sign c

-- no line that a cell of the raster's columns is read along meets the patch
pub record MissedBeside (eye : Vec) (r : Raster) (p : Patch) : Type 0 where
  pub missed : (i : ℕ) → i < r.width → (j : ℕ) → met eye (line_at r i j) p ≡ false
