-- A patch of three or four corners as one in hand, and question 8 of it.
use mathlib.Core.Path.{◌≡◌, refl, sym, ap, ◌∙◌, subst}
use mathlib.Core.Bool.{Bool, true, false, ◌&&◌, cond, and-true}
use mathlib.Core.List.{List, [], ◌∷◌, map}
use Prim.Native.Nat.{ℕ, zero, suc, ◌+◌, ◌≤◌, ◌<◌}
use native.Mathlib.Decide.{ℕ_discrete}
use borrow.Author.Tests.{ne_eqb}
use native.Mathlib.Nat.{add-zero}
use native.Mathlib.Omega.{arith}
use lib.Dec.{lit<}
use Rattle.std.specs.Prelude.{nat_eq}
use lib.IntN.{ℤ, pos}
use lib.ListN.{length, get_or, get_or-map, length-map}
use lib.Signed.{lt_z}
use mir.Syntax.{w64}
use mir.Val.{to_z, of_z}
use Rattle.integer.proofs.Magnitude.{within_stored}
use Rattle.model.specs.Lists.{every, range}
use Rattle.model.specs.Vector.{origin, plane_normal}
use Rattle.model.specs.Bounds.{VecWithin}
use Rattle.model.specs.Patch.{normal, strictly_convex}
use Rattle.model.proofs.Loops.{IsEvery, every_number, Passed, none_passed, one_passed}
use Rattle.model.proofs.Ranges.{all_by_number}
use Rattle.model.proofs.Tables.{same_table}
use Rattle.geometry.specs.declared.Vector.{Vector}
use Rattle.geometry.specs.Machine.{vec_of, plane_of, VectorIs, NumberIs}
use Rattle.geometry.proofs.Sizes.{vec_within}
use Rattle.format.specs.Patch.{corner_of, patch_of}
use Rattle.projection.specs.declared.Axis.{Axis}
use Rattle.projection.specs.declared.Axis.TheVariants.{X, Y, Z}
use Rattle.projection.specs.declared.Point.{Point}
use Rattle.projection.specs.declared.Projection.{Projection}
use Rattle.projection.specs.Projected.{first_axis, along, across, wrap, Projected, projected_of, projected_at, ProjectionBounded, ThreeWithin, asked, turns_projected, turns_projected_at, convex_projected}
use Rattle.projection.proofs.Asked.{next_asked}
use Rattle.projection.proofs.Projected.{turned_projected, turn_projected_at, projected_bounded}
use Rattle.projection.proofs.ReadRound.{wrap_low, wrap_below}
use Rattle.polygons.specs.Bounds.{PatchBounded, FoundFlat}
use Rattle.polygons.proofs.Corners.{normal_found}
use Rattle.polygons.proofs.Along.{firsts, seconds, found_bounded, found_convex}
use Rattle.small_polygons.specs.Few.{FewBounded, nowhere, in_hand, patch_of_few, edges_asked}

-- what the code tells of a turn, whose number passed through a word
pub turn_told : {z r : ℤ} → NumberIs 640000000000000000 z r → lt_z (pos 0) (to_z w64 (of_z w64 r)) ≡ lt_z (pos 0) z
turn_told is = ap (lt_z (pos 0)) (within_stored w64 is.bounded (lit< tt) ∙ is.value)

-- ---- three corners, read round, turn one way: three equal tests are one
folded : (t u v : Bool) → u ≡ t → v ≡ t → ((t && true) && ((u && true) && ((v && true) && true))) ≡ t
folded true u v e f = rw (e, f)
folded false u v e f = refl

-- the projection of three corners is strictly convex
abbrev pub convex_three : ℤ → Point → Point → Point → Bool
convex_three part a b c = convex_projected (record { part = part; count = 3 }) (a.u ∷ b.u ∷ c.u ∷ []) (a.v ∷ b.v ∷ c.v ∷ [])

-- of any three points and any part, the first turn tells of all
pub three_once : (part : ℤ) (a b c : Point) → convex_three part a b c ≡ turns_projected part (projected_of a) (projected_of b) (projected_of c)
unfolding asked
three_once part a b c =
    folded _ _ _ (turned_projected part (projected_of b) (projected_of c) (projected_of a))
    (sym (turned_projected part (projected_of a) (projected_of b) (projected_of c)))

-- ---- the patch in hand
module _ (cs : List Vector) where
  pub corner_is : (k : ℕ) → corner_of (in_hand cs) k ≡ vec_of (get_or cs k nowhere)
  corner_is k = λ i.
      record {
        x = get_or-map (λ (v : Vector). v.x) cs k nowhere i;
        y = get_or-map (λ (v : Vector). v.y) cs k nowhere i;
        z = get_or-map (λ (v : Vector). v.z) cs k nowhere i;
      }

  pub patch_is : patch_of (in_hand cs) ≡ patch_of_few cs
  patch_is = λ i. record { panel = 0; corners = are i }
    where
      are : map (corner_of (in_hand cs)) (range 0 (length cs)) ≡ map vec_of cs
      are =
          same_table (corner_of (in_hand cs)) (λ (k : ℕ). get_or (map vec_of cs) k origin) 0 0 (length cs)
          (λ k b. corner_is (0 + k) ∙ sym (get_or-map vec_of cs (0 + k) nowhere))
          ∙ ap (λ (n : ℕ). map (λ (k : ℕ). get_or (map vec_of cs) k origin) (range 0 n)) (sym (length-map cs vec_of))
          ∙ all_by_number (map vec_of cs) origin

pub few_bounded : {cs : List Vector} → FewBounded cs → PatchBounded (in_hand cs)
few_bounded {cs} h =
    record {
      three = h.three;
      eight = omega (arith, h.four);
      corners_within = λ k b. subst (VecWithin 10000) (sym (corner_is cs k)) (vec_within (h.each k b));
    }

-- ---- its projection
pub point_is : (axis : Axis) (cs : List Vector) (k : ℕ) {q : Point} → projected_of q ≡ across axis (vec_of (get_or cs k nowhere)) →
    projected_of q ≡ projected_at (firsts axis (in_hand cs)) (seconds axis (in_hand cs)) k
point_is axis cs k e = e ∙ ap (across axis) (sym (corner_is cs k)) ∙ same axis
  where
    same : (a : Axis) → across a (corner_of (in_hand cs) k) ≡ projected_at (firsts a (in_hand cs)) (seconds a (in_hand cs)) k
    same X = refl
    same Y = refl
    same Z = refl

-- the turn at the end of the edge from corner k
abbrev pub turn_after : Axis → List Vector → Projection → ℕ → Bool
turn_after axis cs projection k = turn_projected_at projection (firsts axis (in_hand cs)) (seconds axis (in_hand cs)) k 0

-- while the edges are gone round: those before corner k have their next corner on their inner side, and corner k and the next one are at hand
pub record Turning (axis : Axis) (cs : List Vector) (projection : Projection) (a b : Point) (k : ℕ) : Type 0 where
  pub passed : Passed (edges_asked projection.count) (turn_after axis cs projection) k
  pub a_is : k < projection.count → projected_of a ≡ projected_at (firsts axis (in_hand cs)) (seconds axis (in_hand cs)) k
  pub b_is : projected_of b ≡ projected_at (firsts axis (in_hand cs)) (seconds axis (in_hand cs)) (wrap projection.count (k + 1))

-- what the code looks at along the axis
abbrev pub seen_along : ℤ → ℕ → Projection
seen_along part count = record { part = to_z w64 (of_z w64 part); count = count }

module _ (cs : List Vector) {n : Vector} (s : FoundFlat (in_hand cs) n) (few : length cs ≤ 4) {axis : Axis} (at : axis ≡ first_axis (vec_of n)) {part : ℤ} (part_is : part ≡ along axis (vec_of n))
    {count : ℕ} (counted : count ≡ length cs) where
  pub projection_bounded : ProjectionBounded (seen_along part count) (firsts axis (in_hand cs)) (seconds axis (in_hand cs))
  projection_bounded =
      subst (λ (m : ℕ). ProjectionBounded (seen_along part m) (firsts axis (in_hand cs)) (seconds axis (in_hand cs))) (sym counted) (found_bounded s at refl part_is)

  every_turn : IsEvery count (turn_after axis cs (seen_along part count)) (strictly_convex (patch_of (in_hand cs)))
  every_turn =
      record {
        one_no = λ k h e. sym convex ∙ edges.one_no k h (one k ∙ e);
        all_yes = λ g. sym convex ∙ edges.all_yes (λ k h. one k ∙ g k h);
      }
    where
      us : List ℤ
      us = firsts axis (in_hand cs)

      vs : List ℤ
      vs = seconds axis (in_hand cs)

      edges : IsEvery count (turns_projected_at (seen_along part count) us vs) (convex_projected (seen_along part count) us vs)
      edges = every_number (turns_projected_at (seen_along part count) us vs) count

      convex : convex_projected (seen_along part count) us vs ≡ strictly_convex (patch_of (in_hand cs))
      convex = ap (λ (m : ℕ). convex_projected (seen_along part m) us vs) counted ∙ found_convex s at refl part_is

      one : (k : ℕ) → turns_projected_at (seen_along part count) us vs k ≡ turn_after axis cs (seen_along part count) k
      one k =
          ap
          (λ (m : ℕ).
          every (turns_projected (to_z w64 (of_z w64 part)) (projected_at us vs k) (projected_at us vs (wrap count (k + 1))))
          (map (λ (j : ℕ). projected_at us vs (wrap count (k + 2 + j))) (range 0 m)))
          (sym (next_asked (omega (arith, few, counted))))
          ∙ and-true (turn_after axis cs (seen_along part count) k)

  -- of three corners the first edge tells
  pub each_turn : IsEvery (edges_asked count) (turn_after axis cs (seen_along part count)) (strictly_convex (patch_of (in_hand cs)))
  each_turn = go (ℕ_discrete count 3)
    where
      place : ℕ → Projected
      place k = projected_at (firsts axis (in_hand cs)) (seconds axis (in_hand cs)) k

      third : turns_projected (to_z w64 (of_z w64 part)) (place 0) (place 1) (place 2) ≡ turns_projected (to_z w64 (of_z w64 part)) (place 2) (place 0) (place 1)
      third = turned_projected (to_z w64 (of_z w64 part)) (place 0) (place 1) (place 2)

      second : turns_projected (to_z w64 (of_z w64 part)) (place 2) (place 0) (place 1) ≡ turns_projected (to_z w64 (of_z w64 part)) (place 1) (place 2) (place 0)
      second = turned_projected (to_z w64 (of_z w64 part)) (place 2) (place 0) (place 1)

      of_first : turn_after axis cs (seen_along part 3) 0 ≡ true → (k : ℕ) → k < 3 → turn_after axis cs (seen_along part 3) k ≡ true
      of_first t zero h = t
      of_first t (suc zero) h = sym second ∙ sym third ∙ t
      of_first t (suc (suc zero)) h = sym third ∙ t
      of_first t (suc (suc (suc k))) h = absurd (omega arith)

      go : Dec (count ≡ 3) → IsEvery (edges_asked count) (turn_after axis cs (seen_along part count)) (strictly_convex (patch_of (in_hand cs)))
      go (no f) = rw (ne_eqb count 3 f) every_turn
      go (yes e) =
          subst (λ (m : ℕ). IsEvery (edges_asked m) (turn_after axis cs (seen_along part m)) (strictly_convex (patch_of (in_hand cs)))) (sym e)
          (three (subst (λ (m : ℕ). IsEvery m (turn_after axis cs (seen_along part m)) (strictly_convex (patch_of (in_hand cs)))) e every_turn))
        where
          three :
              IsEvery 3 (turn_after axis cs (seen_along part 3)) (strictly_convex (patch_of (in_hand cs))) →
              IsEvery 1 (turn_after axis cs (seen_along part 3)) (strictly_convex (patch_of (in_hand cs)))
          three is = record { one_no = λ k h e. is.one_no k (omega arith) e; all_yes = λ g. is.all_yes (of_first (g 0 (omega arith))) }

-- ---- the steps

-- no more edges are asked than there are
pub asked_inside : {count m k : ℕ} → 3 ≤ count → m ≡ edges_asked count → k < m → (k < edges_asked count) × (k < count)
asked_inside {count} {m} {k} three e h = (asked, go (nat_eq count 3) asked)
  where
    asked : k < edges_asked count
    asked = omega (arith, e)

    go : (t : Bool) → k < cond t 1 count → k < count
    go true l = omega arith
    go false l = l

-- as many corners as there are places
pub passed_by : {n m : ℕ} {test : ℕ → Bool} {k : ℕ} → n ≡ m → Passed n test k → Passed m test k
passed_by {test = test} {k} e p = subst (λ (n : ℕ). Passed n test k) e p

pub normal_first :
    {cs : List Vector} (h : FewBounded cs) {n : Vector} →
    VectorIs 800000000 (plane_normal (plane_of (get_or cs 0 nowhere) (get_or cs 1 nowhere) (get_or cs 2 nowhere))) n →
    VectorIs 800000000 (normal (patch_of (in_hand cs))) n
normal_first {cs} h is = normal_found (few_bounded h) (sym (corner_is cs 0)) (sym (corner_is cs 1)) (sym (corner_is cs 2)) is

module _ (cs : List Vector) {axis : Axis} {projection : Projection} {a b : Point} where
  pub turning_starts : 1 < projection.count → projected_of a ≡ across axis (vec_of (get_or cs 0 nowhere)) → projected_of b ≡ across axis (vec_of (get_or cs 1 nowhere)) → Turning axis cs projection a b 0
  turning_starts h ea eb =
      record {
        passed = none_passed _ _;
        a_is = λ k. point_is axis cs 0 ea;
        b_is = point_is axis cs 1 eb ∙ ap (projected_at (firsts axis (in_hand cs)) (seconds axis (in_hand cs))) (wrap_low h);
      }

module _ {cs : List Vector} {axis : Axis} {projection : Projection} {a b : Point} {k : ℕ} (t : Turning axis cs projection a b k) (h : k < projection.count) {c : Point} {place : ℕ}
    (placed : place ≡ wrap projection.count (k + 2)) (ec : projected_of c ≡ across axis (vec_of (get_or cs place nowhere))) where
  abbrev at : ℕ → Projected
  at = projected_at (firsts axis (in_hand cs)) (seconds axis (in_hand cs))

  third_is : projected_of c ≡ at (wrap projection.count (k + 2))
  third_is = point_is axis cs place ec ∙ ap at placed

  pub three_near : ProjectionBounded projection (firsts axis (in_hand cs)) (seconds axis (in_hand cs)) → ThreeWithin (projected_of a) (projected_of b) (projected_of c)
  three_near bounded =
      record {
        a_within = projected_bounded bounded h (t.a_is h);
        b_within = projected_bounded bounded (wrap_below {n = projection.count} {i = k + 1} (omega (arith, bounded.three))) t.b_is;
        c_within = projected_bounded bounded (wrap_below {n = projection.count} {i = k + 2} (omega (arith, bounded.three))) third_is;
      }

  pub turn_is : turns_projected projection.part (projected_of a) (projected_of b) (projected_of c) ≡ turn_after axis cs projection k
  turn_is = λ i. turns_projected projection.part (t.a_is h i) (t.b_is i) ((third_is ∙ ap (λ (m : ℕ). at (wrap projection.count m)) (sym (add-zero (k + 2)))) i)

  pub turning_goes : k < edges_asked projection.count → {r : Bool} → r ≡ turns_projected projection.part (projected_of a) (projected_of b) (projected_of c) → r ≡ true → Turning axis cs projection b c (k + 1)
  turning_goes l e f =
      record {
        passed = one_passed t.passed l (e ∙ turn_is) f;
        a_is = λ m. t.b_is ∙ ap at (sym (wrap_low m));
        b_is = third_is ∙ ap (λ (m : ℕ). at (wrap projection.count m)) (omega arith);
      }
