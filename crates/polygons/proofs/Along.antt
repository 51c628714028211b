-- A flat patch in hand is strictly convex exactly if its projection is, along an axis that shows its plane.
use mathlib.Core.Path.{◌≡◌, refl, sym, ap, ◌∙◌, subst}
use mathlib.Core.Bool.{Bool, true, false, cond, true≢false}
use mathlib.Core.List.{List}
use Prim.Native.Nat.{ℕ, ◌+◌, ◌-◌, ◌<◌}
use native.Mathlib.Omega.{arith}
use lib.Dec.{lit<}
use lib.IntN.{ℤ, pos, ℤ_discrete}
use lib.ListN.{get_or}
use mir.Syntax.{w64}
use mir.Val.{to_z, of_z}
use Rattle.integer.specs.Magnitude.{Within}
use Rattle.integer.proofs.Magnitude.{within_stored}
use Rattle.model.specs.Vector.{Vec, is_zero, side}
use Rattle.model.proofs.Tests.{is_true, same_test, true_of}
use Rattle.model.proofs.Patches.{is_zero_lem}
use Rattle.model.specs.Patch.{patch_plane, normal, flat, strictly_convex}
use Rattle.geometry.specs.declared.Vector.{Vector}
use Rattle.geometry.specs.Machine.{vec_of, Bounded, VectorIs}
use Rattle.format.specs.declared.patch.Patch.{Patch}
use Rattle.format.specs.Patch.{corner_of, patch_of}
use Rattle.polygons.specs.Bounds.{PatchBounded, WithNormal, FoundFlat}
use Rattle.projection.specs.Projected.{wrap, Projected, projected_at, ProjectionBounded, turns_projected, convex_projected}
use Rattle.projection.specs.declared.Projection.{Projection}
use Rattle.model.proofs.Loops.{each}
use Rattle.projection.proofs.ReadRound.{wrap_below}
use Rattle.polygons.proofs.Corners.{turn_at, flat_asked, convex_asked, turns_asked}
use Rattle.projection.proofs.Projected.{turn_projected_at, turned_projected, convex_projected_asked, turns_projected_asked}
use Rattle.projection.proofs.Asked.{asked_others, all_others}
use Rattle.projection.specs.declared.Axis.{Axis}
use Rattle.projection.specs.declared.Axis.TheVariants.{X, Y, Z}
use Rattle.projection.specs.Projected.{first_axis, along, across}
use Rattle.polygons.proofs.Axes.{Shown, slanted, no_plane, turns_as_projected}

-- ---- the coordinates across an axis
abbrev pub firsts : Axis → Patch → List ℤ
firsts X p = p.y
firsts Y p = p.z
firsts Z p = p.x

abbrev pub seconds : Axis → Patch → List ℤ
seconds X p = p.z
seconds Y p = p.x
seconds Z p = p.y

projected_across : (a : Axis) (p : Patch) (k : ℕ) → projected_at (firsts a p) (seconds a p) k ≡ across a (corner_of p k)
projected_across X p k = refl
projected_across Y p k = refl
projected_across Z p k = refl

-- one of a patch's three tables of coordinates: each is in bounds, in whatever order two of them are taken
pub data TableOf (p : Patch) : List ℤ → Type 0 where
  x_table : TableOf p p.x
  y_table : TableOf p p.y
  z_table : TableOf p p.z

table_within : {p : Patch} {us : List ℤ} → PatchBounded p → TableOf p us → (k : ℕ) → k < p.count → Within 10000 (get_or us k (pos 0))
table_within b x_table k h = (b.corners_within k h).x_within
table_within b y_table k h = (b.corners_within k h).y_within
table_within b z_table k h = (b.corners_within k h).z_within

pub first_table : (a : Axis) (p : Patch) → TableOf p (firsts a p)
first_table X p = y_table
first_table Y p = z_table
first_table Z p = x_table

pub second_table : (a : Axis) (p : Patch) → TableOf p (seconds a p)
second_table X p = z_table
second_table Y p = x_table
second_table Z p = y_table

along_within : (a : Axis) {n : Vector} → Bounded 800000000 n → Within 800000000 (along a (vec_of n))
along_within X h = h.x_within
along_within Y h = h.y_within
along_within Z h = h.z_within

-- ---- a number that passed through a word
stored : {z : ℤ} → Within 800000000 z → to_z w64 (of_z w64 z) ≡ z
stored h = within_stored w64 h (lit< tt)

zero_only : (z : ℤ) → is_zero z ≡ true → z ≡ pos 0
zero_only z t = (is_zero_lem z).0 (is_true t)

-- what the code looks at along the axis
abbrev projection : Axis → Patch → Vector → Projection
projection a p n = record { part = to_z w64 (of_z w64 (along a (vec_of n))); count = p.count }

module _ {p : Patch} {n : Vector} (w : WithNormal p n) where
  abbrev b : PatchBounded p
  b = w.bounded

  abbrev en : VectorIs 800000000 (normal (patch_of p)) n
  en = w.normal_is

  -- ---- an axis that shows the plane
  pub first_shown : Shown (first_axis (vec_of n)) (normal (patch_of p))
  first_shown = go (is_zero n.x) (is_zero n.y) refl refl
    where
      other : (a : Axis) → is_zero (along a (vec_of n)) ≡ false → Shown a (normal (patch_of p))
      other a f = slanted (λ e. true≢false (sym (ap (λ (v : Vec). is_zero (along a v)) en.value ∙ ap is_zero e) ∙ f))

      last : is_zero n.x ≡ true → is_zero n.y ≡ true → Dec (n.z ≡ pos 0) → Shown Z (normal (patch_of p))
      last ex ey (no f) = slanted (λ e. f (ap (λ (v : Vec). v.z) en.value ∙ e))
      last ex ey (yes ez) = no_plane (sym en.value ∙ (λ i. record { x = zero_only n.x ex i; y = zero_only n.y ey i; z = ez i }))

      go : (x y : Bool) → is_zero n.x ≡ x → is_zero n.y ≡ y → Shown (cond x (cond y Z Y) X) (normal (patch_of p))
      go false y ex ey = other X ex
      go true false ex ey = other Y ey
      go true true ex ey = last ex ey (ℤ_discrete n.z (pos 0))

  module _ (a : Axis) where
    pub projection_bounded : {us vs : List ℤ} → TableOf p us → TableOf p vs → ProjectionBounded (projection a p n) us vs
    projection_bounded f g =
        record {
          three = b.three;
          eight = b.eight;
          part_within = subst (Within 800000000) (sym (stored (along_within a en.bounded))) (along_within a en.bounded);
          corners_within = λ k h. record { u_within = table_within b f k h; v_within = table_within b g k h };
        }

    across_bounded : ProjectionBounded (projection a p n) (firsts a p) (seconds a p)
    across_bounded = projection_bounded (first_table a p) (second_table a p)

    module _ (f : flat (patch_of p) ≡ true) (shown : Shown a (normal (patch_of p))) where
      on_plane_all : (k : ℕ) → k < p.count → side (patch_plane (patch_of p)) (corner_of p k) ≡ pos 0
      on_plane_all k h = zero_only _ (each (flat_asked b) f k h)

      same_turn : {k j : ℕ} → k < p.count → j < p.count - 2 → turn_projected_at (projection a p n) (firsts a p) (seconds a p) k j ≡ turn_at p k j
      same_turn {k} {j} h l =
          let i = wrap p.count (k + 1) in
          let o = wrap p.count (k + 2 + j) in
          (λ t. turns_projected ((stored (along_within a en.bounded) ∙ ap (along a) en.value) t) (projected_across a p k t) (projected_across a p i t) (projected_across a p o t))
          ∙ turns_as_projected a (patch_plane (patch_of p)) (record { a = corner_of p k; b = corner_of p i; c = corner_of p o })
          (on_plane_all k h)
          (on_plane_all i (wrap_below (omega (arith, b.three))))
          (on_plane_all o (wrap_below (omega arith)))
          shown

      pub convex_as_projected : convex_projected (projection a p n) (firsts a p) (seconds a p) ≡ strictly_convex (patch_of p)
      convex_as_projected = same_test _ _ (λ t. is_true (forth (true_of t))) (λ t. is_true (back (true_of t)))
        where
          place : ℕ → Projected
          place k = projected_at (firsts a p) (seconds a p) k

          turn : ℕ → ℕ → ℕ → Bool
          turn i j k = turns_projected (projection a p n).part (place i) (place j) (place k)

          forth : convex_projected (projection a p n) (firsts a p) (seconds a p) ≡ true → strictly_convex (patch_of p) ≡ true
          forth t =
              (convex_asked b).all_yes
              (λ k h. (turns_asked b h).all_yes
              (λ j l. sym (same_turn h l)
              ∙ all_others turn (λ i j k. turned_projected (projection a p n).part (place i) (place j) (place k)) p.count
              (λ k h j l. each (turns_projected_asked across_bounded h) (each (convex_projected_asked across_bounded) t k h) j l) k h j l))

          back : strictly_convex (patch_of p) ≡ true → convex_projected (projection a p n) (firsts a p) (seconds a p) ≡ true
          back t =
              (convex_projected_asked across_bounded).all_yes
              (λ k h. (turns_projected_asked across_bounded h).all_yes
              (λ j l.
              let m = asked_others b.three l in
              same_turn h m ∙ each (turns_asked b h) (each (convex_asked b) t k h) j m))

-- along the axis that the code finds; in each of its cases it is known by its name
module _ {p : Patch} {n : Vector} (s : FoundFlat p n) {axis a : Axis} (at : axis ≡ first_axis (vec_of n)) (named : axis ≡ a) {part : ℤ} (part_is : part ≡ along axis (vec_of n)) where
  abbrev found : Projection
  found = record { part = to_z w64 (of_z w64 part); count = p.count }

  found_is : found ≡ projection a p n
  found_is = ap (λ (z : ℤ). record { part = to_z w64 (of_z w64 z); count = p.count }) (part_is ∙ ap (λ (b : Axis). along b (vec_of n)) named)

  pub found_bounded : ProjectionBounded found (firsts a p) (seconds a p)
  found_bounded =
      subst (λ (q : Projection). ProjectionBounded q (firsts a p) (seconds a p)) (sym found_is)
      (projection_bounded s.with_normal a (first_table a p) (second_table a p))

  pub found_convex : convex_projected found (firsts a p) (seconds a p) ≡ strictly_convex (patch_of p)
  found_convex =
      ap (λ (q : Projection). convex_projected q (firsts a p) (seconds a p)) found_is
      ∙ convex_as_projected s.with_normal a s.is_flat_lem
      (subst (λ (b : Axis). Shown b (normal (patch_of p))) (sym at ∙ named) (first_shown s.with_normal))
