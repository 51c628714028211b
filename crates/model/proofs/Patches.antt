-- What questions 6 and 8 say of a patch, and what it says of a ray that it meets the patch.
use mathlib.Core.Path.{◌≡◌, refl, sym, subst, subst₂}
use mathlib.Core.Logic.{◌≢◌, ◌↔◌}
use mathlib.Core.Bool.{Bool, not, ◌&&◌}
use mathlib.Core.List.{List, [], ◌∷◌, Memᴰ}
use Prim.Native.Nat.{ℕ, zero, suc, ◌≤◌, ◌<◌}
use native.Mathlib.Omega.{arith}
use lib.Dec.{T, T_not, not_T, leb, leb→le}
use lib.IntN.{ℤ, pos, negsuc}
use lib.ListN.{length, get_or}
use lib.Signed.{◌<ℤ◌, lt_z_yes}
use Rattle.integer.proofs.Signs.{SameSign}
use Rattle.model.specs.Lists.{every}
use Rattle.model.specs.Vector.{Vec, origin, minus, dot, is_zero, side}
use Rattle.model.specs.Patch.{Patch, Edge, corner, patch_plane, normal, first_edge, edges, lies_on, flat, turns_towards, strictly_convex, Proper}
use Rattle.model.specs.Ray.{eye_product, edge_vector, edge_number, same_sign, met}
use Rattle.model.proofs.Tests.{both, every_true}
use Rattle.model.proofs.Vectors.{det, level_from}
use Rattle.model.proofs.Rounds.{start, turned_edge}

pub is_zero_lem : (z : ℤ) → T (is_zero z) ↔ (z ≡ pos 0)
is_zero_lem (pos zero) = (λ t. refl, λ e. tt)
is_zero_lem (pos (suc n)) = (λ t. absurd t, λ e. subst (λ (z : ℤ). T (is_zero z)) (sym e) tt)
is_zero_lem (negsuc n) = (λ t. absurd t, λ e. subst (λ (z : ℤ). T (is_zero z)) (sym e) tt)

-- the edge between the first two corners, and the third
first_three : (cs : List Vec) → 3 ≤ length cs → ((first_edge cs).from ≡ get_or cs 0 origin) × ((first_edge cs).to ≡ get_or cs 1 origin) × Memᴰ (get_or cs 2 origin) (first_edge cs).others
first_three [] h = absurd (omega arith)
first_three (u ∷ []) h = absurd (omega arith)
first_three (u ∷ v ∷ []) h = absurd (omega arith)
first_three (u ∷ v ∷ w ∷ cs) h = (refl, refl, Memᴰ.head refl)

place_mem : (cs : List Vec) (k : ℕ) → k < length cs → Memᴰ (get_or cs k origin) cs
place_mem [] k h = absurd (omega arith)
place_mem (c ∷ cs) zero h = Memᴰ.head refl
place_mem (c ∷ cs) (suc k) h = Memᴰ.tail (place_mem cs k (omega arith))

module _ {p : Patch} (h : Proper p) where
  pub three_corners : 3 ≤ length p.corners
  three_corners = leb→le 3 (length p.corners) ((both (leb 3 (length p.corners)) (leb (length p.corners) 8)).0 h.counted).0

  some_corner : 0 < length p.corners
  some_corner = omega (arith, three_corners)

  pub corner_mem : (k : ℕ) → k < 3 → Memᴰ (corner p k) p.corners
  corner_mem k l = place_mem p.corners k (omega (arith, three_corners))

  pub first_corner : Memᴰ (corner p 0) p.corners
  first_corner = corner_mem 0 (omega arith)

  -- every corner lies in the plane of the first three
  pub corner_level : {c : Vec} → Memᴰ c p.corners → side (patch_plane p) c ≡ pos 0
  unfolding lies_on flat
  corner_level {c} m =
      (is_zero_lem (side (patch_plane p) c)).0 ((every_true (λ (q : Vec). is_zero (side (patch_plane p) q)) p.corners).0 h.is_flat c m)

  -- so it is as high above the eye as the first
  pub corner_height : {c : Vec} → Memᴰ c p.corners → (eye : Vec) → dot (minus c eye) (normal p) ≡ eye_product eye p
  corner_height {c} m eye = level_from (normal p) eye (corner p 0) c (corner_level m)

  -- the corners turn the normal's way
  pub turns : {e : Edge} → Memᴰ e (edges p.corners) → {q : Vec} → Memᴰ q e.others → pos 0 <ℤ det (normal p) (minus e.to e.from) (minus q e.from)
  unfolding strictly_convex
  turns {e} m {q} l =
      lt_z_yes
      ((every_true (turns_towards (normal p) e) e.others).0
      ((every_true (λ (e : Edge). every (turns_towards (normal p) e) e.others) (edges p.corners)).0 h.is_convex e m)
      q l)

  pub normal_square : pos 0 <ℤ dot (normal p) (normal p)
  normal_square =
      let t = first_three p.corners three_corners in
      subst₂ (λ (v w : Vec). pos 0 <ℤ det (normal p) (minus w v) (minus (corner p 2) v)) t.0 t.1 (turns (turned_edge some_corner start) t.2)

-- "for every edge from v to w, direction · ((v − eye) × (w − eye)) is not zero and has the sign of the eye-to-corner product (first corner − eye) · n,
-- also not zero"
pub record Meets (eye d : Vec) (p : Patch) : Type 0 where
  pub faced : eye_product eye p ≢ pos 0
  pub passed : {e : Edge} → Memᴰ e (edges p.corners) → SameSign (eye_product eye p) (edge_number d (edge_vector eye e))

pub met_says : (eye d : Vec) (p : Patch) → T (met eye d p) ↔ Meets eye d p
unfolding met
met_says eye d p = (λ t. read (parts.0 t), λ m. parts.1 (not_T (is_zero σ) (λ t. m.faced ((is_zero_lem σ).0 t)), (every_true side_of_lem (edges p.corners)).1 (λ e l. (m.passed l).agree.lt)))
  where
    σ : ℤ
    σ = eye_product eye p

    side_of_lem : Edge → Bool
    side_of_lem e = same_sign (eye_product eye p) (edge_number d (edge_vector eye e))

    parts : T (not (is_zero σ) && every side_of_lem (edges p.corners)) ↔ (T (not (is_zero σ)) × T (every side_of_lem (edges p.corners)))
    parts = both (not (is_zero σ)) (every side_of_lem (edges p.corners))

    read : T (not (is_zero σ)) × T (every side_of_lem (edges p.corners)) → Meets eye d p
    read (z, t) = record { faced = λ e. T_not (is_zero σ) z ((is_zero_lem σ).1 e); passed = λ {e} l. record { agree = lt_z_yes ((every_true side_of_lem (edges p.corners)).0 t e l) } }
