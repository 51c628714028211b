-- The patches that a list keeps when chosen panels are taken away.
use mathlib.Core.Path.{◌≡◌, refl, sym, subst}
use mathlib.Core.Logic.{◌↔◌, ⊎_elim}
use mathlib.Core.Bool.{Bool, true, false, cond, ◌&&◌}
use mathlib.Core.List.Memᴰ
use mathlib.Core.List.{List, [], ◌∷◌, Memᴰ}
use Prim.Native.Nat.{ℕ, ◌<◌}
use lib.Dec.{T, eqb, eqb→eq, eqb_refl}
use lib.IntN.{ℤ, ◌-ℤ◌, +ℤ_invr}
use Rattle.integer.proofs.Identity.{by_zero}
use Rattle.model.specs.Vector.{Vec, is_zero, vec}
use Rattle.model.specs.Patch.{Patch}
use Rattle.model.specs.Removal.{same_point, same_points, same_patch, times_listed, is_chosen, kept, TakenAway}
use Rattle.model.proofs.Tests.{is_true, both, tally_some}
use Rattle.model.proofs.Patches.{is_zero_lem}

-- ---- the same patch

same_number : (m n : ℤ) → T (is_zero (m -ℤ n)) → m ≡ n
same_number m n t = by_zero ((is_zero_lem (m -ℤ n)).0 t)

no_difference : (z : ℤ) → T (is_zero (z -ℤ z))
no_difference z = (is_zero_lem (z -ℤ z)).1 (+ℤ_invr z)

-- a test of points, coordinate by coordinate
by_parts :
    (v w : Vec) →
    T (same_point v w) ↔ (T (is_zero (v.x -ℤ w.x)) × T (is_zero (v.y -ℤ w.y)) × T (is_zero (v.z -ℤ w.z)))
by_parts v w = (
  λ t. let s = xyz.0 t in let r = xy.0 s.0 in (r.0, r.1, s.1),
  λ s. xyz.1 (xy.1 (s.0, s.1), s.2),
)
  where
    xy : T (is_zero (v.x -ℤ w.x) && is_zero (v.y -ℤ w.y)) ↔ (T (is_zero (v.x -ℤ w.x)) × T (is_zero (v.y -ℤ w.y)))
    xy = both (is_zero (v.x -ℤ w.x)) (is_zero (v.y -ℤ w.y))

    xyz : T (same_point v w) ↔ (T (is_zero (v.x -ℤ w.x) && is_zero (v.y -ℤ w.y)) × T (is_zero (v.z -ℤ w.z)))
    xyz = both (is_zero (v.x -ℤ w.x) && is_zero (v.y -ℤ w.y)) (is_zero (v.z -ℤ w.z))

same_point_is : (v w : Vec) → T (same_point v w) → v ≡ w
same_point_is v w t =
    let s = (by_parts v w).0 t in
    let x = same_number v.x w.x s.0 in
    let y = same_number v.y w.y s.1 in
    let z = same_number v.z w.z s.2 in
    λ i. vec (x i) (y i) (z i)

same_points_is : (vs ws : List Vec) → T (same_points vs ws) → vs ≡ ws
unfolding same_points
same_points_is [] [] t = refl
same_points_is [] (w ∷ ws) t = absurd t
same_points_is (v ∷ vs) [] t = absurd t
same_points_is (v ∷ vs) (w ∷ ws) t =
    let s = (both (same_point v w) (same_points vs ws)).0 t in
    λ i. same_point_is v w s.0 i ∷ same_points_is vs ws s.1 i

same_points_refl : (vs : List Vec) → T (same_points vs vs)
unfolding same_points
same_points_refl [] = tt
same_points_refl (v ∷ vs) =
    (both (same_point v v) (same_points vs vs)).1
    ((by_parts v v).1 (no_difference v.x, no_difference v.y, no_difference v.z), same_points_refl vs)

-- the test says exactly that the patches are equal
same_patch_is : (p q : Patch) → T (same_patch p q) ↔ (p ≡ q)
unfolding same_patch
same_patch_is p q = (there, λ e. subst (λ (r : Patch). T (same_patch p r)) e itself)
  where
    there : T (same_patch p q) → p ≡ q
    there t =
        let s = (both (eqb p.panel q.panel) (same_points p.corners q.corners)).0 t in
        let n = eqb→eq p.panel q.panel s.0 in
        let cs = same_points_is p.corners q.corners s.1 in
        λ i. record { panel = n i; corners = cs i }

    itself : T (same_patch p p)
    itself =
        (both (eqb p.panel p.panel) (same_points p.corners p.corners)).1
        (eqb_refl p.panel, same_points_refl p.corners)

-- ---- members

-- a patch is listed at all exactly where it is a member
listed : (p : Patch) (ps : List Patch) → (0 < times_listed p ps) ↔ Memᴰ p ps
unfolding times_listed
listed p ps = (
  λ h. let s = (tally_some (same_patch p) ps).0 h in Memᴰ.cast ((same_patch_is p s.0).0 s.2) s.1,
  λ m. (tally_some (same_patch p) ps).1 (p, m, (same_patch_is p p).1 refl),
)

module _ (chosen : ℕ → Bool) where
  abbrev Unchosen : Patch → Type 0
  Unchosen p = T (is_chosen chosen p.panel) → ⊥

  -- what is kept of a list: its patches that are not of a chosen panel
  pub kept_members :
      (ps : List Patch) (p : Patch) →
      Memᴰ p (kept chosen ps) ↔ (Memᴰ p ps × (T (is_chosen chosen p.panel) → ⊥))
  unfolding kept
  kept_members [] p = (λ m. absurd (Memᴰ.not-nil m), λ s. absurd (Memᴰ.not-nil s.0))
  kept_members (q ∷ ps) p = go (is_chosen chosen q.panel) refl (kept_members ps p)
    where
      later : Memᴰ p ps × Unchosen p → Memᴰ p (q ∷ ps) × Unchosen p
      later s = (Memᴰ.tail s.0, s.1)

      go :
          (b : Bool) →
          is_chosen chosen q.panel ≡ b →
          Memᴰ p (kept chosen ps) ↔ (Memᴰ p ps × Unchosen p) →
          Memᴰ p (cond b (kept chosen ps) (q ∷ kept chosen ps)) ↔ (Memᴰ p (q ∷ ps) × Unchosen p)
      go true e h = (
        λ m. later (h.0 m),
        λ s.
            ⊎_elim (λ (r : p ≡ q). absurd (subst Unchosen r s.1 (is_true e)))
            (λ (m : Memᴰ p ps). h.1 (m, s.1)) (Memᴰ.cases_cons s.0),
      )
      go false e h = (
        λ m.
            ⊎_elim {C = Memᴰ p (q ∷ ps) × Unchosen p}
            (λ (r : p ≡ q). (Memᴰ.head r, subst Unchosen (sym r) (λ t. subst T e t)))
            (λ (k : Memᴰ p (kept chosen ps)). later (h.0 k)) (Memᴰ.cases_cons m),
        λ s.
            ⊎_elim (λ (r : p ≡ q). Memᴰ.head r)
            (λ (m : Memᴰ p ps). Memᴰ.tail (h.1 (m, s.1))) (Memᴰ.cases_cons s.0),
      )

  -- the second list holds just what is kept of the first
  pub taken_members :
      (first second : List Patch) →
      TakenAway chosen first second →
      (p : Patch) →
      Memᴰ p second ↔ Memᴰ p (kept chosen first)
  taken_members first second taken p = (
    λ m. (listed p (kept chosen first)).0 (rw (taken p) at ((listed p second).1 m)),
    λ m. (listed p second).0 (rw (taken p) ((listed p (kept chosen first)).1 m)),
  )
