-- What a raster sees of an edge vector, as the machine works it out: three products, and one more at the start where the edge counts in.
use mathlib.Core.Path.{◌≡◌, refl, ap, ap₂, ◌∙◌}
use lib.IntN.{ℤ, ◌+ℤ◌}
use mir.Syntax.{w64}
use mir.Val.{SFits, to_z, of_z}
use Rattle.integer.specs.Magnitude.{Within}
use Rattle.integer.proofs.Machine.{machine, result, no_overflow}
use Rattle.model.specs.Vector.{dot}
use Rattle.geometry.specs.declared.Vector.{Vector}
use Rattle.geometry.specs.declared.Raster.{Raster}
use Rattle.geometry.specs.Machine.{vec_of, Bounded, NumberIs}
use Rattle.geometry.specs.Raster.{RasterBounded, FunctionIs, counts_in, seen_by}
use Rattle.geometry.proofs.Results.{number, number_by, function}

module _ {r : Raster} {e : Vector} (raster : RasterBounded r) (edge : Bounded 800000000 e) {start one : ℤ} (start_is : start ≡ dot (vec_of r.origin) (vec_of e)) (small : Within 1 one) where
  pub sum_fits : SFits w64 (to_z w64 (of_z w64 start) +ℤ to_z w64 (of_z w64 one))
  sum_fits = no_overflow (search (machine, result) depth 40 fits 20000, tt)

  sum_number :
      NumberIs 1351200000000001 (dot (vec_of r.origin) (vec_of e) +ℤ one)
      (to_z w64 (of_z w64 (to_z w64 (of_z w64 start) +ℤ to_z w64 (of_z w64 one))))
  sum_number = number (search (machine, result) depth 40 fits 20000, tt, tt, refl)

  module _
      {slope drop : ℤ}
      (slope_is : slope ≡ dot (vec_of r.across) (vec_of e))
      (drop_is : drop ≡ dot (vec_of r.down) (vec_of e))
      (counted : one ≡ counts_in (to_z w64 (of_z w64 slope)) (to_z w64 (of_z w64 drop)))
    where
      slope_number : NumberIs 480000000000 (dot (vec_of r.across) (vec_of e)) (to_z w64 (of_z w64 slope))
      slope_number = number (search (machine, result) depth 40 fits 20000, tt, tt, refl)

      drop_number : NumberIs 480000000000 (dot (vec_of r.down) (vec_of e)) (to_z w64 (of_z w64 drop))
      drop_number = number (search (machine, result) depth 40 fits 20000, tt, tt, refl)

      pub function_is :
          FunctionIs (seen_by r (vec_of e))
          (record {
            start = to_z w64 (of_z w64 (to_z w64 (of_z w64 start) +ℤ to_z w64 (of_z w64 one)));
            slope = to_z w64 (of_z w64 slope);
            drop = to_z w64 (of_z w64 drop);
          })
      function_is =
          function
          (number_by sum_number
          (ap (dot (vec_of r.origin) (vec_of e) +ℤ◌) (counted ∙ ap₂ counts_in slope_number.value drop_number.value)))
          slope_number drop_number
