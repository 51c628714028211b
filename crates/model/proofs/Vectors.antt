-- Identities of vectors: what the laws of rays and planes stand on.
use mathlib.Core.Path.{◌≡◌}
use mathlib.Core.List.{[], ◌∷◌}
use lib.IntN.{ℤ, pos, neg_ℤ, ◌+ℤ◌, ◌-ℤ◌, ◌*ℤ◌}
use Rattle.integer.proofs.Identity.{ring, reify, combine₁, combine₂, combine₃}
use Rattle.model.specs.Vector.{Vec, Plane, minus, plus, times, dot, cross, plane_normal, side, turned_over}

-- a · (b × c)
abbrev pub det : Vec → Vec → Vec → ℤ
det a b c = dot a (cross b c)

-- a product with a sum of multiples
pub dot_sum : (a b c : Vec) (k l : ℤ) → dot a (plus (times k b) (times l c)) ≡ k *ℤ dot a b +ℤ l *ℤ dot a c
dot_sum a b c k l =
    ring (a.x ∷ a.y ∷ a.z ∷ b.x ∷ b.y ∷ b.z ∷ c.x ∷ c.y ∷ c.z ∷ k ∷ l ∷ []) (search reify depth 40 fits 200000, tt)

pub dot_times : (a b : Vec) (k : ℤ) → dot a (times k b) ≡ k *ℤ dot a b
dot_times a b k = ring (a.x ∷ a.y ∷ a.z ∷ b.x ∷ b.y ∷ b.z ∷ k ∷ []) (search reify depth 40 fits 200000, tt)

-- Cramer's rule, seen in any direction N
pub cramer :
    (a b c d N : Vec) →
    det a b c *ℤ dot d N ≡ det d b c *ℤ dot a N +ℤ det d c a *ℤ dot b N +ℤ det d a b *ℤ dot c N
cramer a b c d N =
    ring
    (a.x ∷ a.y ∷ a.z ∷ b.x ∷ b.y ∷ b.z ∷ c.x ∷ c.y ∷ c.z ∷ d.x ∷ d.y ∷ d.z ∷ N.x ∷ N.y ∷ N.z ∷ [])
    (search reify depth 40 fits 200000, tt)

-- Normals of one plane are parallel: of two triples of points on it, each normal is a multiple of the other.
pub parallel :
    (s t : Plane) →
    side s t.a ≡ pos 0 →
    side s t.b ≡ pos 0 →
    side s t.c ≡ pos 0 →
    (x : Vec) →
    dot (plane_normal s) (plane_normal s) *ℤ dot x (plane_normal t) ≡ dot (plane_normal s) (plane_normal t) *ℤ dot x (plane_normal s)
parallel s t ea eb ec x = go t.a t.b t.c (plane_normal s) s.a ea eb ec
  where
    go :
        (a b c n o : Vec) →
        dot (minus a o) n ≡ pos 0 →
        dot (minus b o) n ≡ pos 0 →
        dot (minus c o) n ≡ pos 0 →
        dot n n *ℤ dot x (cross (minus b a) (minus c a)) ≡ dot n (cross (minus b a) (minus c a)) *ℤ dot x n
    go a b c n o ea eb ec =
        combine₃
        (neg_ℤ (det n (minus c a) x +ℤ det n x (minus b a)))
        ea
        (det n (minus c a) x)
        eb
        (det n x (minus b a))
        ec
        (ring
        (a.x ∷ a.y ∷ a.z ∷ b.x ∷ b.y ∷ b.z ∷ c.x ∷ c.y ∷ c.z ∷ n.x ∷ n.y ∷ n.z ∷ o.x ∷ o.y ∷ o.z ∷ x.x ∷ x.y ∷ x.z ∷ [])
        (search reify depth 40 fits 200000, tt))

-- The line from the eye along d meets the plane through o with normal n at the point ((d · n) eye + σ d) / (d · n), where σ is (o − eye) · n.
abbrev pub on_line : Vec → Vec → ℤ → ℤ → Vec
on_line eye d σ k = plus (times k eye) (times σ d)

pub meets_plane : (eye d n o : Vec) → dot (minus (on_line eye d (dot (minus o eye) n) (dot d n)) (times (dot d n) o)) n ≡ pos 0
meets_plane eye d n o =
    ring
    (eye.x ∷ eye.y ∷ eye.z ∷ d.x ∷ d.y ∷ d.z ∷ n.x ∷ n.y ∷ n.z ∷ o.x ∷ o.y ∷ o.z ∷ [])
    (search reify depth 40 fits 200000, tt)

-- For points v and w of the plane, the edge number says on which side of the edge from v to w that point lies.
pub edge_number_lem :
    (eye d n v w : Vec) (σ : ℤ) →
    dot (minus v eye) n ≡ σ →
    dot (minus w eye) n ≡ σ →
    dot n n *ℤ det d (minus v eye) (minus w eye) ≡ det n (minus w v) (minus (on_line eye d σ (dot d n)) (times (dot d n) v))
edge_number_lem eye d n v w σ ev ew =
    combine₂
    (det n (minus w eye) d)
    ev
    (det n d (minus v eye))
    ew
    (ring
    (eye.x ∷ eye.y ∷ eye.z ∷ d.x ∷ d.y ∷ d.z ∷ n.x ∷ n.y ∷ n.z ∷ v.x ∷ v.y ∷ v.z ∷ w.x ∷ w.y ∷ w.z ∷ σ ∷ [])
    (search reify depth 40 fits 200000, tt))

-- the same for the direction to a third point m of the plane
pub triangle :
    (eye n m v w : Vec) (σ : ℤ) →
    dot (minus m eye) n ≡ σ →
    dot (minus v eye) n ≡ σ →
    dot (minus w eye) n ≡ σ →
    dot n n *ℤ det (minus m eye) (minus v eye) (minus w eye) ≡ σ *ℤ det n (minus w v) (minus m v)
triangle eye n m v w σ em ev ew =
    combine₃
    (det n (minus v eye) (minus w eye))
    em
    (det n (minus w eye) (minus m eye))
    ev
    (det n (minus m eye) (minus v eye))
    ew
    (ring
    (eye.x ∷ eye.y ∷ eye.z ∷ n.x ∷ n.y ∷ n.z ∷ m.x ∷ m.y ∷ m.z ∷ v.x ∷ v.y ∷ v.z ∷ w.x ∷ w.y ∷ w.z ∷ σ ∷ [])
    (search reify depth 40 fits 200000, tt))

-- an edge and the same edge the other way
pub det_swap : (d a b : Vec) → det d b a ≡ neg_ℤ (det d a b)
det_swap d a b = ring (d.x ∷ d.y ∷ d.z ∷ a.x ∷ a.y ∷ a.z ∷ b.x ∷ b.y ∷ b.z ∷ []) (search reify depth 40 fits 200000, tt)

-- ---- sides of a plane
pub side_turned : (s : Plane) (c : Vec) → side (turned_over s) c ≡ neg_ℤ (side s c)
side_turned s c = go s.a s.b s.c
  where
    go : (o a b : Vec) → det (minus c o) (minus b o) (minus a o) ≡ neg_ℤ (det (minus c o) (minus a o) (minus b o))
    go o a b = det_swap (minus c o) (minus a o) (minus b o)

-- two points at one height above a plane, seen from the eye
pub level_from : (n eye o c : Vec) → dot (minus c o) n ≡ pos 0 → dot (minus c eye) n ≡ dot (minus o eye) n
level_from n eye o c e =
    combine₁ (pos 1) e
    (ring
    (n.x ∷ n.y ∷ n.z ∷ eye.x ∷ eye.y ∷ eye.z ∷ o.x ∷ o.y ∷ o.z ∷ c.x ∷ c.y ∷ c.z ∷ [])
    (search reify depth 40 fits 200000, tt))

-- a point seen from the eye
pub side_from : (s : Plane) (eye c : Vec) → dot (minus c eye) (plane_normal s) ≡ side s c -ℤ side s eye
side_from s eye c = go s.a (plane_normal s)
  where
    go : (o N : Vec) → dot (minus c eye) N ≡ dot (minus c o) N -ℤ dot (minus eye o) N
    go o N =
        ring
        (o.x ∷ o.y ∷ o.z ∷ N.x ∷ N.y ∷ N.z ∷ eye.x ∷ eye.y ∷ eye.z ∷ c.x ∷ c.y ∷ c.z ∷ [])
        (search reify depth 40 fits 200000, tt)
