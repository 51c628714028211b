-- What is left of a raster's rows without those that lie beside a patch.
use mathlib.Core.Path.{◌≡◌, refl, sym, subst}
use mathlib.Core.Logic.{◌⊎◌, inl, inr}
use mathlib.Core.Bool.{Bool, true, false}
use mathlib.Core.List.{List}
use Prim.Native.Nat.{ℕ, ◌≤◌, ◌<◌}
use native.Mathlib.Omega.{arith}
use lib.Dec.{T}
use lib.IntN.{pos, negsuc}
use Rattle.integer.proofs.Magnitude.{within_literal}
use Rattle.model.specs.Vector.{Vec}
use Rattle.model.specs.Bounds.{VecWithin}
use Rattle.model.specs.Patch.{Patch, Proper}
use Rattle.model.specs.Ray.{met}
use Rattle.model.proofs.Alike.{Ranged}
use Rattle.geometry.specs.declared.Raster.{Raster}
use Rattle.geometry.specs.Machine.{vec_of}
use Rattle.geometry.specs.Raster.{line_at}
use Rattle.spans.specs.declared.Span.{Span}
use Rattle.spans.specs.Span.{covers, Limited}
use Rattle.spans.proofs.Clipping.{covers_says}
use Rattle.reach.specs.declared.Sides.{Sides}
use Rattle.reach.specs.declared.Planes.{Planes}
use Rattle.reach.specs.Planes.{PlanesOf}
use Rattle.reach.specs.Reach.{SidesBeside, Without, Reach}
use Rattle.reach.proofs.BesidePlanes.{row_missed}

module _
    (raster : Raster) {eye : Vec} {n : Planes} {corners : List Vec} {sides : Sides} {rest r : Span}
    (b : SidesBeside eye n corners raster.height sides)
    (u : Without (record { first = 0; end = raster.height }) sides.ahead rest)
    (v : Without rest sides.behind r)
  where
    pub reach_left :
        {p : Patch} → PlanesOf (vec_of raster.origin) (vec_of raster.across) (vec_of raster.down) n → VecWithin 10000 eye → Proper p → Ranged p →
        p.corners ≡ corners → Reach eye raster p r
    reach_left {p} planes near proper ranged e = record { missed = go }
      where
        go : (j : ℕ) → j < raster.height → (r.first ≤ j → j < r.end → ⊥) → (i : ℕ) → met eye (line_at raster i j) p ≡ false
        go j h g i = first (covers sides.ahead j) refl
          where
            second : (rest.first ≤ j) × (j < rest.end) → (c : Bool) → covers sides.behind j ≡ c → met eye (line_at raster i j) p ≡ false
            second m true t = row_missed raster eye (negsuc 0) (within_literal tt) near proper ranged planes j (rw e (b.behind_beside.all j (subst T (sym t) tt))) i
            second m false t =
                let l = v.left j m.0 m.1 (λ x y. subst T t ((covers_says sides.behind j).1 (x, y))) in absurd (g l.0 l.1)

            first : (c : Bool) → covers sides.ahead j ≡ c → met eye (line_at raster i j) p ≡ false
            first true t = row_missed raster eye (pos 1) (within_literal tt) near proper ranged planes j (rw e (b.ahead_beside.all j (subst T (sym t) tt))) i
            first false t =
                second (u.left j (omega arith) h (λ x y. subst T t ((covers_says sides.ahead j).1 (x, y)))) (covers sides.behind j) refl

    pub reach_limited : Limited raster.height r
    reach_limited =
        let a = b.ahead_beside.shaped in
        let z = b.behind_beside.shaped in
        record {
          first_limit = v.first_limit height (u.first_limit height (omega arith) a.limited) z.limited;
          end_limit =
              v.end_limit height (u.end_limit height (omega arith) (starts sides.ahead a.written a.limited))
              (starts sides.behind z.written z.limited);
        }
      where
        height : ℕ
        height = raster.height

        starts : (s : Span) → (s.first < s.end) ⊎ ((s.first ≡ 0) × (s.end ≡ 0)) → s.end ≤ height → s.first ≤ height
        starts s (inl h) k = omega arith
        starts s (inr (h, _)) k = omega arith
