-- The corners of a patch, one after another, held to the planes of the rows.
use mathlib.Core.Path.{◌≡◌, refl, sym, ◌∙◌, subst, subst₂}
use mathlib.Core.List.Memᴰ
use mathlib.Core.List.{List, [], ◌∷◌, ◌++◌, map, map-append}
use Prim.Native.Nat.{ℕ, ◌+◌, ◌≤◌, ◌<◌}
use native.Mathlib.Omega.{arith}
use lib.Dec.{T, lit≤, lit<}
use lib.IntN.{ℤ, pos, negsuc, neg_ℤ, ◌+ℤ◌, ◌-ℤ◌, ◌*ℤ◌}
use lib.Signed.{lt_z, ◌<ℤ◌, lt_z_yes}
use mir.Syntax.{w64}
use mir.Val.{to_z, of_z}
use Rattle.integer.proofs.Identity.{ring, reify}
use Rattle.integer.proofs.Magnitude.{within_more, within_stored}
use Rattle.integer.proofs.Machine.{machine, exact}
use Rattle.model.specs.Lists.{range}
use Rattle.model.specs.Vector.{Vec, minus, plus, times, dot}
use Rattle.model.proofs.Tests.{both, of_append, of_one}
use Rattle.geometry.specs.declared.Vector.{Vector}
use Rattle.geometry.specs.Machine.{vec_of, Bounded, NumberIs}
use Rattle.spans.specs.declared.Span.{Span}
use Rattle.spans.specs.Span.{covers, number_at, Linear, Clipped}
use Rattle.spans.proofs.RowFunctions.{words_linear}
use Rattle.spans.proofs.Rows.{shaped_all}
use Rattle.model.proofs.Ranges.{range_append}
use Rattle.reach.specs.declared.Planes.{Planes}
use Rattle.reach.specs.declared.Sides.{Sides}
use Rattle.reach.specs.Planes.{normal_at}
use Rattle.reach.specs.Reach.{OnOneSide, SidesBeside, SidesShaped, SidesClipped}

pub bounded_more : {n m : ℕ} {v : Vector} → n ≤ m → Bounded n v → Bounded m v
bounded_more h b =
    record { x_within = within_more b.x_within h; y_within = within_more b.y_within h; z_within = within_more b.z_within h }

-- the opposite number
module _ {A B : ℤ} (h : Linear A B) where
  opposite_slope : to_z w64 (of_z w64 (pos 0 -ℤ to_z w64 (of_z w64 A))) ≡ neg_ℤ A
  opposite_slope = exact w64 (search machine depth 40 fits 20000, tt, refl)

  opposite_start : to_z w64 (of_z w64 (pos 0 -ℤ to_z w64 (of_z w64 B))) ≡ neg_ℤ B
  opposite_start = exact w64 (search machine depth 40 fits 20000, tt, refl)

  pub opposite_clipped :
      {s r : Span} → Clipped (to_z w64 (of_z w64 (pos 0 -ℤ to_z w64 (of_z w64 A)))) (to_z w64 (of_z w64 (pos 0 -ℤ to_z w64 (of_z w64 B)))) s r →
      Clipped (neg_ℤ A) (neg_ℤ B) s r
  opposite_clipped {s} {r} c = subst₂ (λ (a b : ℤ). Clipped a b s r) opposite_slope opposite_start c

-- while the corners are gone through: in the rows of the spans the first k corners lie beside the planes
pub record BesideFirst (eye : Vec) (n : Planes) (corner : ℕ → Vec) (first count height k : ℕ) (s : Sides) : Type 0 where
  pub most : k ≤ count
  pub so_far : SidesBeside eye n (map corner (range first k)) height s

module _ {eye : Vec} {n : Planes} {height : ℕ} where
  beside_no_corner : (sign : ℤ) → OnOneSide eye n sign [] height (record { first = 0; end = height })
  beside_no_corner sign = record { all = λ j t c m. absurd (Memᴰ.not-nil m); shaped = shaped_all height }

  -- one corner more: in the rows left its number, slope · j + start, is above 0
  beside_corner :
      {sign : ℤ} {corners : List Vec} {s r : Span} {A B : ℤ} (c : Vec) →
      ((j : ℕ) → number_at A B j ≡ dot (minus c eye) (normal_at n sign j)) →
      OnOneSide eye n sign corners height s → Clipped A B s r →
      OnOneSide eye n sign (corners ++ c ∷ []) height r
  beside_corner {sign} {corners} {s} {r} {A} {B} c is b clipped =
      record {
        all = λ j t.
            let p = (both (covers s j) (lt_z (pos 0) (number_at A B j))).0 (subst T (clipped.exact j) t) in
            of_append (λ (c : Vec). pos 0 <ℤ dot (minus c eye) (normal_at n sign j)) corners (b.all j p.0)
            (of_one (λ (c : Vec). pos 0 <ℤ dot (minus c eye) (normal_at n sign j)) (subst (pos 0 <ℤ◌) (is j) (lt_z_yes p.1)));
        shaped = record { written = clipped.shaped.written; limited = omega (arith, clipped.shaped.limited, b.shaped.limited) };
      }

-- the numbers of a corner, as the machine has them
module _ {u v A B : ℤ} (slope : NumberIs 48000000000000 u A) (start : NumberIs 48000000000000 v B) where
  linear : Linear A B
  linear = record { slope_within = within_more slope.bounded (lit≤ tt); start_within = within_more start.bounded (lit≤ tt) }

  pub corner_linear : Linear (to_z w64 (of_z w64 A)) (to_z w64 (of_z w64 B))
  corner_linear = words_linear linear

  pub corner_clipped : {s r : Sides} → SidesClipped (to_z w64 (of_z w64 A)) (to_z w64 (of_z w64 B)) s r → SidesClipped u v s r
  corner_clipped {s} {r} c =
      subst₂ (λ (a b : ℤ). SidesClipped a b s r) (within_stored w64 slope.bounded (lit< tt) ∙ slope.value)
      (within_stored w64 start.bounded (lit< tt) ∙ start.value) c

-- the numbers of a corner along the rows
number_ahead : (d f g : Vec) (j : ℤ) → dot d g *ℤ j +ℤ dot d f ≡ dot d (times (pos 1) (plus f (times j g)))
number_ahead d f g j =
    ring (d.x ∷ d.y ∷ d.z ∷ f.x ∷ f.y ∷ f.z ∷ g.x ∷ g.y ∷ g.z ∷ j ∷ []) (search reify depth 40 fits 200000, tt)

number_behind : (d f g : Vec) (j : ℤ) → neg_ℤ (dot d g) *ℤ j +ℤ neg_ℤ (dot d f) ≡ dot d (times (negsuc 0) (plus f (times j g)))
number_behind d f g j =
    ring (d.x ∷ d.y ∷ d.z ∷ f.x ∷ f.y ∷ f.z ∷ g.x ∷ g.y ∷ g.z ∷ j ∷ []) (search reify depth 40 fits 200000, tt)

module _ {eye : Vec} {n : Planes} {corner : ℕ → Vec} {first count height : ℕ} where
  pub beside_none : BesideFirst eye n corner first count height 0 (record { ahead = record { first = 0; end = height }; behind = record { first = 0; end = height } })
  beside_none =
      record { most = omega arith; so_far = record { ahead_beside = beside_no_corner (pos 1); behind_beside = beside_no_corner (negsuc 0) } }

  module _ {k : ℕ} {s : Sides} (b : BesideFirst eye n corner first count height k s) where
    pub beside_more :
        {c : Vec} {r : Sides} → k < count → c ≡ corner (first + k) →
        SidesClipped (dot (minus c eye) (vec_of n.next)) (dot (minus c eye) (vec_of n.first)) s r →
        BesideFirst eye n corner first count height (k + 1) r
    beside_more {c} {r} h is clipped =
        record {
          most = omega arith;
          so_far =
              subst (λ (cs : List Vec). SidesBeside eye n cs height r) (sym one_more)
              (record {
                ahead_beside =
                    beside_corner c (λ j. number_ahead (minus c eye) (vec_of n.first) (vec_of n.next) (pos j))
                    b.so_far.ahead_beside clipped.ahead_clipped;
                behind_beside =
                    beside_corner c (λ j. number_behind (minus c eye) (vec_of n.first) (vec_of n.next) (pos j))
                    b.so_far.behind_beside clipped.behind_clipped;
              });
        }
      where
        one_more : map corner (range first (k + 1)) ≡ map corner (range first k) ++ c ∷ []
        one_more = rw (is, range_append first k 1) (map-append corner (range first k) ((first + k) ∷ []))

    pub sides_shaped : {m : ℕ} → height ≤ m → SidesShaped m s
    sides_shaped h =
        let u = b.so_far.ahead_beside.shaped in
        let v = b.so_far.behind_beside.shaped in
        record {
          ahead_shaped = record { written = u.written; limited = omega (arith, u.limited) };
          behind_shaped = record { written = v.written; limited = omega (arith, v.limited) };
        }

    pub beside_all : count ≤ k → SidesBeside eye n (map corner (range first count)) height s
    beside_all h = let e : k ≡ count = omega (arith, b.most) in rw (sym e) b.so_far
