-- A station in units and a camera that were handed over in words of 16 bits are the same.
use mathlib.Core.Path.{◌≡◌, ◌∙◌, ap}
use Prim.Native.Nat.{ℕ}
use lib.IntN.{ℤ}
use mir.Syntax.{w16}
use mir.Val.{SFits}
use Rattle.model.specs.Vector.{Vec, vec}
use Rattle.model.specs.View.{Axes, Tile}
use Rattle.model.specs.Station.{units}
use Rattle.format.proofs.Words.{words, same_vector}
use Rattle.contract.specs.Contract.{axes_by, camera_by}

pub same_units : {x y z : ℤ} → SFits w16 x → SFits w16 y → SFits w16 z → units (words x y z) ≡ units (vec x y z)
same_units f g h = ap units (same_vector f g h)

-- the same three vectors are the same axes
pub same_axes :
    {right right' forward forward' up up' : Vec} →
    right ≡ right' → forward ≡ forward' → up ≡ up' → axes_by right forward up ≡ axes_by right' forward' up'
same_axes r f u = λ i. axes_by (r i) (f i) (u i)

-- a camera by its axes' nine numbers
pub same_camera :
    {axes : Axes} {rx ry rz fx fy fz ux uy uz : ℤ} {w h l : ℕ} {t : Tile} →
    axes ≡ axes_by (words rx ry rz) (words fx fy fz) (words ux uy uz) →
    SFits w16 rx → SFits w16 ry → SFits w16 rz →
    SFits w16 fx → SFits w16 fy → SFits w16 fz →
    SFits w16 ux → SFits w16 uy → SFits w16 uz →
    camera_by axes w h l t ≡ camera_by (axes_by (vec rx ry rz) (vec fx fy fz) (vec ux uy uz)) w h l t
same_camera {w = w} {h} {l} {t} e r r' r'' f f' f'' u u' u'' =
    ap (λ (a : Axes). camera_by a w h l t) (e ∙ same_axes (same_vector r r' r'') (same_vector f f' f'') (same_vector u u' u''))
