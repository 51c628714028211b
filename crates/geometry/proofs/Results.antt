-- How a result is shown to be the model's number or vector, and carried over to an equal one. Assumes nothing.
use mathlib.Core.Path.{◌≡◌, ◌∙◌, ap}
use Prim.Native.Nat.{ℕ, ◌^◌}
use lib.Dec.{T, leb, ltb}
use lib.IntN.{ℤ}
use mir.Syntax.{w64}
use mir.Val.{hbits}
use Rattle.integer.proofs.Machine.{Computed, ideal, bound, peak, exact, magnitude}
use Rattle.model.specs.Vector.{Vec, minus, dot, plane_normal, side}
use Rattle.geometry.specs.declared.Vector.{Vector}
use Rattle.geometry.specs.declared.EdgeFunction.{EdgeFunction}
use Rattle.geometry.specs.Machine.{vec_of, plane_of, VectorIs, NumberIs}
use Rattle.geometry.specs.Raster.{FunctionIs}

-- what the machine computed from bounded numbers: `number (search (machine, result) depth 40 fits 20000, tt, tt, refl)`
pub number :
    {n : ℕ} {z r : ℤ} →
    (m : Computed w64 r) × T (ltb (peak m 0) (2 ^ hbits w64)) × T (leb (bound m) n) × (ideal m ≡ z) →
    NumberIs n z r
number (m, t, u, e) = record { value = exact w64 (m, t, e); bounded = magnitude w64 (m, t, u) }

pub vector :
    {n : ℕ} {v : Vec} {r : Vector} →
    NumberIs n v.x r.x →
    NumberIs n v.y r.y →
    NumberIs n v.z r.z →
    VectorIs n v r
vector h k l =
    record {
      value = rw (h.value, k.value, l.value);
      bounded = record { x_within = h.bounded; y_within = k.bounded; z_within = l.bounded };
    }

pub function :
    {e f : EdgeFunction} →
    NumberIs 1351200000000001 e.start f.start →
    NumberIs 480000000000 e.slope f.slope →
    NumberIs 480000000000 e.drop f.drop →
    FunctionIs e f
function h k l =
    record {
      value = rw (h.value, k.value, l.value);
      bounded = record { start_within = h.bounded; slope_within = k.bounded; drop_within = l.bounded };
    }

pub number_by : {n : ℕ} {y z r : ℤ} → NumberIs n y r → y ≡ z → NumberIs n z r
number_by h e = record { value = h.value ∙ e; bounded = h.bounded }

pub vector_by : {n : ℕ} {u v : Vec} {r : Vector} → VectorIs n u r → u ≡ v → VectorIs n v r
vector_by h e = record { value = h.value ∙ e; bounded = h.bounded }

-- with the plane's own normal, what `side` returns is the model's side number
pub side_of_plane :
    {m n : ℕ} {normal : Vector} {r : ℤ} (a b c p : Vector) →
    VectorIs m (plane_normal (plane_of a b c)) normal →
    NumberIs n (dot (minus (vec_of p) (vec_of a)) (vec_of normal)) r →
    NumberIs n (side (plane_of a b c) (vec_of p)) r
side_of_plane a b c p h k = number_by k (ap (dot (minus (vec_of p) (vec_of a))) h.value)
