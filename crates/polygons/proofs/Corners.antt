-- Question 8 by the corners of a patch in hand.
use mathlib.Core.Path.{◌≡◌, refl, sym, ap, ◌∙◌}
use mathlib.Core.Bool.{Bool, true, false}
use mathlib.Core.List.{[], ◌∷◌, map}
use Prim.Native.Nat.{ℕ, zero, suc, ◌+◌, ◌-◌, ◌<◌}
use native.Mathlib.Omega.{arith}
use lib.IntN.{ℤ, pos}
use lib.ListN.{length}
use mir.Syntax.{w64}
use mir.Val.{of_z}
use Rattle.integer.proofs.Identity.{ring, reify}
use Rattle.model.specs.Lists.{range, every}
use Rattle.model.specs.Vector.{Vec, origin, minus, dot, is_zero, plane_normal, side}
use Rattle.model.specs.Patch as model
use Rattle.model.specs.Patch.{Edge, corner, patch_plane, normal, round, first_edge, edges, lies_on, flat, turns_towards, strictly_convex}
use Rattle.geometry.specs.declared.Vector.{Vector}
use Rattle.geometry.specs.Machine.{vec_of, plane_of, Bounded, VectorIs, NumberIs}
use Rattle.geometry.proofs.Results.{number_by, vector_by}
use Rattle.format.specs.declared.patch.Patch.{Patch}
use Rattle.format.specs.Patch.{corner_of, patch_of}
use Rattle.model.proofs.Tables.{length_table, table_at}
use Rattle.polygons.specs.Bounds.{PatchBounded}
use Rattle.projection.specs.Projected.{wrap}
use Rattle.polygons.specs.Tests.{turns_at_edge, patch_proper}
use Rattle.model.proofs.Loops.{IsBoth, IsEvery, every_entry, Passed}
use Rattle.format.proofs.InRange.{bounded}
use Rattle.geometry.proofs.Zeros.{zero_word, other_word}
use Rattle.polygons.proofs.Edges.{edge, edge_at}

-- ---- the three points of a plane are on it
module _ (a b c : Vec) where
  first_on_plane : side (record { a = a; b = b; c = c }) a ≡ pos 0
  first_on_plane =
      ring (a.x ∷ a.y ∷ a.z ∷ b.x ∷ b.y ∷ b.z ∷ c.x ∷ c.y ∷ c.z ∷ []) (search reify depth 40 fits 200000, tt)

  second_on_plane : side (record { a = a; b = b; c = c }) b ≡ pos 0
  second_on_plane =
      ring (a.x ∷ a.y ∷ a.z ∷ b.x ∷ b.y ∷ b.z ∷ c.x ∷ c.y ∷ c.z ∷ []) (search reify depth 40 fits 200000, tt)

  third_on_plane : side (record { a = a; b = b; c = c }) c ≡ pos 0
  third_on_plane =
      ring (a.x ∷ a.y ∷ a.z ∷ b.x ∷ b.y ∷ b.z ∷ c.x ∷ c.y ∷ c.z ∷ []) (search reify depth 40 fits 200000, tt)

module _ (p : Patch) where
  pub corner_in : (k : ℕ) → k < p.count → corner (patch_of p) k ≡ corner_of p k
  corner_in k h = table_at (corner_of p) p.count k origin h

  pub count_in : length (patch_of p).corners ≡ p.count
  count_in = length_table (corner_of p) 0 p.count

-- the test of the edge from corner k at the other corner j places after its end
abbrev pub turn_at : Patch → ℕ → ℕ → Bool
turn_at p k j =
    turns_towards (normal (patch_of p)) (edge (corner_of p) p.count k) (corner_of p (wrap p.count (k + 2 + j)))

module _ {p : Patch} (b : PatchBounded p) where
  pub corner_bounded : {k : ℕ} {r : Vector} → k < p.count → vec_of r ≡ corner_of p k → Bounded 10000 r
  corner_bounded {k} h e = bounded e (b.corners_within k h)

  -- ---- the normal
  plane_in :
      {u v w : Vector} →
      vec_of u ≡ corner_of p 0 →
      vec_of v ≡ corner_of p 1 →
      vec_of w ≡ corner_of p 2 →
      plane_of u v w ≡ patch_plane (patch_of p)
  plane_in eu ev ew = λ i.
      record {
        a = (eu ∙ sym (corner_in p 0 (omega (arith, b.three)))) i;
        b = (ev ∙ sym (corner_in p 1 (omega (arith, b.three)))) i;
        c = (ew ∙ sym (corner_in p 2 (omega (arith, b.three)))) i;
      }

  pub normal_found : {u v w r : Vector} → vec_of u ≡ corner_of p 0 → vec_of v ≡ corner_of p 1 → vec_of w ≡ corner_of p 2 →
      VectorIs 800000000 (plane_normal (plane_of u v w)) r → VectorIs 800000000 (normal (patch_of p)) r
  normal_found eu ev ew is = vector_by is (ap plane_normal (plane_in eu ev ew))

  -- ---- flat
  pub flat_asked : IsEvery p.count (λ (k : ℕ). is_zero (side (patch_plane (patch_of p)) (corner_of p k))) (flat (patch_of p))
  unfolding lies_on flat
  flat_asked = every_entry (λ (q : Vec). is_zero (side (patch_plane (patch_of p)) q)) (corner_of p) p.count refl

  -- the first three corners are on their plane
  pub three_passed : Passed p.count (λ (k : ℕ). is_zero (side (patch_plane (patch_of p)) (corner_of p k))) 3
  three_passed = record { most = b.three; passed = on_own_plane }
    where
      found : (k : ℕ) → k < 3 → side (patch_plane (patch_of p)) (corner (patch_of p) k) ≡ pos 0
      found zero h = first_on_plane (corner (patch_of p) 0) (corner (patch_of p) 1) (corner (patch_of p) 2)
      found (suc zero) h = second_on_plane (corner (patch_of p) 0) (corner (patch_of p) 1) (corner (patch_of p) 2)
      found (suc (suc zero)) h = third_on_plane (corner (patch_of p) 0) (corner (patch_of p) 1) (corner (patch_of p) 2)
      found (suc (suc (suc k))) h = absurd (omega arith)

      on_own_plane : (k : ℕ) → k < 3 → is_zero (side (patch_plane (patch_of p)) (corner_of p k)) ≡ true
      on_own_plane k h =
          ap (λ (q : Vec). is_zero (side (patch_plane (patch_of p)) q)) (sym (corner_in p k (omega (arith, b.three)))) ∙ ap is_zero (found k h)

  module _ (k : ℕ) {n a q : Vector} {r : ℤ} (en : VectorIs 800000000 (normal (patch_of p)) n) (ea : vec_of a ≡ corner_of p 0)
      (eq : vec_of q ≡ corner_of p k)
      (is : NumberIs 48000000000000 (dot (minus (vec_of q) (vec_of a)) (vec_of n)) r) where
    side_found : NumberIs 48000000000000 (side (patch_plane (patch_of p)) (corner_of p k)) r
    side_found = number_by is (λ i. dot (minus (eq i) ((ea ∙ sym (corner_in p 0 (omega (arith, b.three)))) i)) (en.value i))

    pub off_plane_lem : (of_z w64 r ≡ 0 → ⊥) → is_zero (side (patch_plane (patch_of p)) (corner_of p k)) ≡ false
    off_plane_lem h = ap is_zero (sym side_found.value) ∙ other_word r h

    pub on_plane : of_z w64 r ≡ 0 → is_zero (side (patch_plane (patch_of p)) (corner_of p k)) ≡ true
    on_plane e = ap is_zero (sym side_found.value) ∙ zero_word tt side_found.bounded e

  -- ---- strictly convex
  pub convex_asked : IsEvery p.count (turns_at_edge (patch_of p)) (strictly_convex (patch_of p))
  unfolding strictly_convex edges
  convex_asked = every_entry all_turn edge_from p.count (ap (λ (m : ℕ). every all_turn (map edge_from (range 0 m))) (count_in p))
    where
      all_turn : Edge → Bool
      all_turn e = every (turns_towards (normal (patch_of p)) e) e.others

      edge_from : ℕ → Edge
      edge_from k = first_edge (round (patch_of p).corners k)

  module _ {k : ℕ} (h : k < p.count) where
    pub turns_asked : IsEvery (p.count - 2) (turn_at p k) (turns_at_edge (patch_of p) k)
    turns_asked =
        every_entry (turns_towards (normal (patch_of p)) (edge (corner_of p) p.count k))
        (λ (j : ℕ). corner_of p (wrap p.count (k + 2 + j))) (p.count - 2)
        (ap (λ (e : Edge). every (turns_towards (normal (patch_of p)) e) e.others) (edge_at (corner_of p) p.count k h b.three))

pub proper_patch_both : (p : model.Patch) → IsBoth (flat p) (strictly_convex p) (patch_proper p)
proper_patch_both p = record { both_tests = refl }
