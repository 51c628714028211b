-- What a patch covers at the most: nothing beyond a plane that has all its corners on one side. So it goes by the corners alone, and not by how they are listed.
use mathlib.Core.Path.{◌≡◌, sym, ◌∙◌, ap, subst}
use mathlib.Core.Logic.{◌↔◌}
use mathlib.Core.List.{[], ◌∷◌, Memᴰ}
use Prim.Native.Nat.{ℕ}
use lib.Dec.{T}
use lib.IntN.{ℤ, pos, negsuc, neg_ℤ, ◌+ℤ◌, ◌-ℤ◌, ◌*ℤ◌}
use lib.Signed.{◌<ℤ◌, ◌≤ℤ◌}
use Rattle.integer.proofs.Identity.{ring, reify, combine₁, combine₂, combine₃}
use Rattle.integer.proofs.Order.{+_nonneg, ≤_diff, ≤_by, ≡→≤, ≤ℤ_antisym}
use Rattle.integer.proofs.Products.{*_nonneg, *_zero_cancel, neg_of_nonneg, neg_of_nonpos, ≤_by_multiple}
use Rattle.model.specs.Vector.{Vec, minus, times, dot, cross}
use Rattle.model.specs.Patch.{Patch, Edge, Proper, corner, normal, edges}
use Rattle.model.proofs.Vectors.{det, dot_times}
use Rattle.model.proofs.Rounds.{edge_ends}
use Rattle.model.proofs.Patches.{three_corners, first_corner, corner_level, turns, normal_square}
use Rattle.model.proofs.Crossing.{Crossing, crossing}
use Rattle.coverage.specs.Coverage.{plane_side, edge_side, covered}
use Rattle.coverage.proofs.Covered.{Covered, covered_says, across}
use Rattle.coverage.proofs.Points.{corner_covered}

-- Of vectors perpendicular to n, x is made of u and w, seen in any direction N.
made_of :
    (n x u w N : Vec) → pos 0 <ℤ dot n n → dot x n ≡ pos 0 → dot u n ≡ pos 0 → dot w n ≡ pos 0 →
    det n u w *ℤ dot x N ≡ neg_ℤ (det n w x) *ℤ dot u N +ℤ det n u x *ℤ dot w N
made_of n x u w N some hx hu hw =
    combine₁ (dot n N) (*_zero_cancel some flat)
    (ring
    (n.x ∷ n.y ∷ n.z ∷ x.x ∷ x.y ∷ x.z ∷ u.x ∷ u.y ∷ u.z ∷ w.x ∷ w.y ∷ w.z ∷ N.x ∷ N.y ∷ N.z ∷ [])
    (search reify depth 40 fits 200000, tt))
  where
    flat : dot n n *ℤ det x u w ≡ pos 0
    flat =
        combine₃ (det n u w) hx (det n w x) hu (det n x u) hw
        (ring
        (n.x ∷ n.y ∷ n.z ∷ x.x ∷ x.y ∷ x.z ∷ u.x ∷ u.y ∷ u.z ∷ w.x ∷ w.y ∷ w.z ∷ [])
        (search reify depth 40 fits 200000, tt))

-- weights α of m, −β of u and γ of w, together k times τ: what lies at these heights, less h each, is the height of q less k h, times τ
weighed :
    (τ k h α β γ m u w q : ℤ) → τ *ℤ (q -ℤ k *ℤ m) ≡ neg_ℤ β *ℤ (u -ℤ m) +ℤ γ *ℤ (w -ℤ m) → α ≡ k *ℤ τ +ℤ β -ℤ γ →
    τ *ℤ (q -ℤ k *ℤ h) ≡ neg_ℤ β *ℤ (u -ℤ h) +ℤ γ *ℤ (w -ℤ h) +ℤ α *ℤ (m -ℤ h)
weighed τ k h α β γ m u w q e f =
    combine₂ (pos 1) e (h -ℤ m) f
    (ring (τ ∷ k ∷ h ∷ α ∷ β ∷ γ ∷ m ∷ u ∷ w ∷ q ∷ []) (search reify depth 40 fits 200000, tt))

module _ {p : Patch} (proper : Proper p) (q : Vec) (k : ℕ) (t : T (covered p q k)) where
  abbrev first : Vec
  first = corner p 0

  on : Covered p q k
  on = (covered_says p q k).0 t

  -- on which side of the diagonal from the first corner the point lies
  abbrev diagonal : Vec → ℤ
  diagonal c = det (normal p) (minus c first) (minus q (times (pos k) first))

  leaving : (e : Edge) → Memᴰ e (edges p.corners) → e.from ≡ first → pos 0 ≤ℤ diagonal e.to
  leaving e l f = subst (λ (c : Vec). pos 0 ≤ℤ det (normal p) (minus e.to c) (minus q (times (pos k) c))) f (on.in_edge l)

  entering : (e : Edge) → Memᴰ e (edges p.corners) → e.to ≡ first → diagonal e.from ≤ℤ pos 0
  entering e l f =
      subst (◌≤ℤ pos 0) (sym (back (normal p) e.from first (pos k)))
      (neg_of_nonneg (subst (λ (c : Vec). pos 0 ≤ℤ det (normal p) (minus c e.from) (minus q (times (pos k) e.from))) f (on.in_edge l)))
    where
      back : (n v m : Vec) (k : ℤ) → det n (minus v m) (minus q (times k m)) ≡ neg_ℤ (det n (minus m v) (minus q (times k v)))
      back n v m k =
          ring
          (n.x ∷ n.y ∷ n.z ∷ v.x ∷ v.y ∷ v.z ∷ m.x ∷ m.y ∷ m.z ∷ q.x ∷ q.y ∷ q.z ∷ k ∷ [])
          (search reify depth 40 fits 200000, tt)

  found : Crossing p.corners first diagonal
  found = crossing diagonal leaving entering (three_corners proper) (first_corner proper)

  -- Where all corners are at height h or above, along any N, so is the point q / k: q is at k h or above.
  pub covered_within :
      (N : Vec) (h : ℤ) → ((c : Vec) → Memᴰ c p.corners → h ≤ℤ dot c N) → (pos k *ℤ h) ≤ℤ dot q N
  covered_within N h high =
      let e = found.edge in
      let u = e.from in
      let w = e.to in
      let ends = edge_ends found.is_edge in
      ≤_by_multiple
      (subst (pos 0 <ℤ◌) (turn (normal p) first u w) (turns proper found.is_edge found.is_other))
      (+_nonneg
      (+_nonneg (*_nonneg (neg_of_nonpos found.after) (≤_diff (high u ends.0))) (*_nonneg found.before (≤_diff (high w ends.1))))
      (*_nonneg (on.in_edge found.is_edge) (≤_diff (high first (first_corner proper)))))
      (weighed (det (normal p) (minus u first) (minus w first)) (pos k) h (edge_side p e q k) (diagonal w) (diagonal u) (dot first N) (dot u N) (dot w N) (dot q N)
      (heights (det (normal p) (minus u first) (minus w first)) (diagonal w) (diagonal u) (pos k) first u w
      (made_of (normal p) (minus q (times (pos k) first)) (minus u first) (minus w first) N (normal_square proper) on.in_plane (corner_level proper ends.0) (corner_level proper ends.1)))
      (inside (normal p) first u w (pos k)))
    where
      turn : (n m u w : Vec) → det n (minus w u) (minus m u) ≡ det n (minus u m) (minus w m)
      turn n m u w =
          ring
          (n.x ∷ n.y ∷ n.z ∷ m.x ∷ m.y ∷ m.z ∷ u.x ∷ u.y ∷ u.z ∷ w.x ∷ w.y ∷ w.z ∷ [])
          (search reify depth 40 fits 200000, tt)

      inside :
          (n m u w : Vec) (k : ℤ) →
          det n (minus w u) (minus q (times k u))
          ≡ k *ℤ det n (minus u m) (minus w m) +ℤ det n (minus w m) (minus q (times k m)) -ℤ det n (minus u m) (minus q (times k m))
      inside n m u w k =
          ring
          (n.x ∷ n.y ∷ n.z ∷ m.x ∷ m.y ∷ m.z ∷ u.x ∷ u.y ∷ u.z ∷ w.x ∷ w.y ∷ w.z ∷ q.x ∷ q.y ∷ q.z ∷ k ∷ [])
          (search reify depth 40 fits 200000, tt)

      heights :
          (τ β γ k : ℤ) (m u w : Vec) →
          τ *ℤ dot (minus q (times k m)) N ≡ neg_ℤ β *ℤ dot (minus u m) N +ℤ γ *ℤ dot (minus w m) N →
          τ *ℤ (dot q N -ℤ k *ℤ dot m N) ≡ neg_ℤ β *ℤ (dot u N -ℤ dot m N) +ℤ γ *ℤ (dot w N -ℤ dot m N)
      heights τ β γ k m u w e =
          combine₁ (pos 1) e
          (ring
          (τ ∷ β ∷ γ ∷ k ∷ m.x ∷ m.y ∷ m.z ∷ u.x ∷ u.y ∷ u.z ∷ w.x ∷ w.y ∷ w.z ∷ q.x ∷ q.y ∷ q.z ∷ N.x ∷ N.y ∷ N.z ∷ [])
          (search reify depth 40 fits 200000, tt))

-- ---- one patch within another

-- the same of the plane through a point a
beyond :
    {p : Patch} → Proper p → (q : Vec) (k : ℕ) → T (covered p q k) → (N a : Vec) →
    ((c : Vec) → Memᴰ c p.corners → pos 0 ≤ℤ dot (minus c (times (pos 1) a)) N) →
    pos 0 ≤ℤ dot (minus q (times (pos k) a)) N
beyond proper q k t N a high =
    subst (pos 0 ≤ℤ◌) (height q a N (pos k))
    (≤_diff (covered_within proper q k t N (dot a N) (λ c m. ≤_by (high c m) (once c a N))))
  where
    height : (q a N : Vec) (k : ℤ) → dot q N -ℤ k *ℤ dot a N ≡ dot (minus q (times k a)) N
    height q a N k =
        ring (q.x ∷ q.y ∷ q.z ∷ a.x ∷ a.y ∷ a.z ∷ N.x ∷ N.y ∷ N.z ∷ k ∷ []) (search reify depth 40 fits 200000, tt)

    once : (c a N : Vec) → dot c N -ℤ dot a N ≡ dot (minus c (times (pos 1) a)) N
    once c a N =
        ring (c.x ∷ c.y ∷ c.z ∷ a.x ∷ a.y ∷ a.z ∷ N.x ∷ N.y ∷ N.z ∷ []) (search reify depth 40 fits 200000, tt)

-- A patch that covers the corners of another covers whatever that one does.
pub corners_enough :
    {p : Patch} → Proper p → (r : Patch) → ((c : Vec) → Memᴰ c p.corners → T (covered r c 1)) →
    (q : Vec) (k : ℕ) → T (covered p q k) → T (covered r q k)
corners_enough {p} proper r corners q k t = (covered_says r q k).1 (record { in_plane = ≤ℤ_antisym not_above_lem not_below_lem; in_edge = in_edge_lem })
  where
    at : (c : Vec) → Memᴰ c p.corners → Covered r c 1
    at c m = (covered_says r c 1).0 (corners c m)

    not_below_lem : pos 0 ≤ℤ plane_side r q k
    not_below_lem = beyond proper q k t (normal r) (corner r 0) (λ c m. ≡→≤ (sym (at c m).in_plane))

    not_above_lem : plane_side r q k ≤ℤ pos 0
    not_above_lem =
        ≤_by
        (beyond proper q k t (times (negsuc 0) (normal r)) (corner r 0)
        (λ c m. ≡→≤ (sym (dot_times (minus c (times (pos 1) (corner r 0))) (normal r) (negsuc 0) ∙ ap (negsuc 0 *ℤ◌) (at c m).in_plane))))
        (opposite (plane_side r q k) ∙ sym (dot_times (minus q (times (pos k) (corner r 0))) (normal r) (negsuc 0)))
      where
        opposite : (x : ℤ) → pos 0 -ℤ x ≡ negsuc 0 *ℤ x
        opposite x = ring (x ∷ []) (search reify depth 40 fits 200000, tt)

    in_edge_lem : {e : Edge} → Memᴰ e (edges r.corners) → pos 0 ≤ℤ edge_side r e q k
    in_edge_lem {e} l =
        subst (pos 0 ≤ℤ◌) (sym (across (normal r) (minus e.to e.from) (minus q (times (pos k) e.from))))
        (beyond proper q k t (cross (normal r) (minus e.to e.from)) e.from
        (λ c m. subst (pos 0 ≤ℤ◌) (across (normal r) (minus e.to e.from) (minus c (times (pos 1) e.from))) ((at c m).in_edge l)))

-- So patches with the same corners cover the same points, whichever way round these are listed and from whichever on.
pub same_corners :
    {p r : Patch} → Proper p → Proper r → ((c : Vec) → Memᴰ c p.corners ↔ Memᴰ c r.corners) →
    (q : Vec) (k : ℕ) → T (covered p q k) ↔ T (covered r q k)
same_corners {p} {r} P R same q k = (
  corners_enough P r (λ c m. corner_covered R ((same c).0 m)) q k,
  corners_enough R p (λ c m. corner_covered P ((same c).1 m)) q k,
)
