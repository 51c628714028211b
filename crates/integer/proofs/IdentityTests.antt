-- Identities of several shapes, each proved by one term.
use mathlib.Core.Path.{◌≡◌}
use mathlib.Core.List.{List, [], ◌∷◌}
use Prim.Native.Nat.{ℕ}
use lib.IntN.{ℤ, pos, negsuc, neg_ℤ, ◌+ℤ◌, ◌-ℤ◌, ◌*ℤ◌}
use Rattle.integer.proofs.Identity.{ring, reify, combine₁, combine₂, combine₃}

square : (a b : ℤ) → (a +ℤ b) *ℤ (a -ℤ b) ≡ a *ℤ a -ℤ b *ℤ b
square a b = ring (a ∷ b ∷ []) (search reify depth 40 fits 200000, tt)

-- literals, and an atom that is a call
literals : (f : ℤ → ℤ) (a : ℤ) → (f a +ℤ pos 3) *ℤ (f a -ℤ negsuc 4) -ℤ neg_ℤ (pos 2 *ℤ a) ≡ f a *ℤ f a +ℤ pos 8 *ℤ f a +ℤ a +ℤ a +ℤ pos 15
literals f a = ring (a ∷ f a ∷ []) (search reify depth 40 fits 200000, tt)

-- numbers that are not closed, and sums, as atoms
opened : (m n : ℕ) → pos m *ℤ pos n +ℤ pos m ≡ pos m *ℤ (pos n +ℤ pos 1)
opened m n = ring (pos m ∷ pos n ∷ []) (search reify depth 40 fits 200000, tt)

whole : (a b c : ℤ) → (a *ℤ b +ℤ c) *ℤ (a *ℤ b) ≡ a *ℤ b *ℤ (a *ℤ b) +ℤ c *ℤ (a *ℤ b)
whole a b c = ring ((a *ℤ b) ∷ c ∷ []) (search reify depth 40 fits 200000, tt)

-- degree 6: a³ − b³, times a³ + b³
sixth : (a b : ℤ) → ((a -ℤ b) *ℤ (a *ℤ a +ℤ a *ℤ b +ℤ b *ℤ b)) *ℤ ((a +ℤ b) *ℤ (a *ℤ a -ℤ a *ℤ b +ℤ b *ℤ b)) ≡ a *ℤ a *ℤ a *ℤ a *ℤ a *ℤ a -ℤ b *ℤ b *ℤ b *ℤ b *ℤ b *ℤ b
sixth a b = ring (a ∷ b ∷ []) (search reify depth 40 fits 200000, tt)

-- ---- vectors
record Vec : Type 0 where
  x : ℤ
  y : ℤ
  z : ℤ

abbrev dot : Vec → Vec → ℤ
dot a b = a.x *ℤ b.x +ℤ a.y *ℤ b.y +ℤ a.z *ℤ b.z

abbrev cross : Vec → Vec → Vec
cross a b = record { x = a.y *ℤ b.z -ℤ a.z *ℤ b.y; y = a.z *ℤ b.x -ℤ a.x *ℤ b.z; z = a.x *ℤ b.y -ℤ a.y *ℤ b.x }

abbrev less : Vec → Vec → Vec
less a b = record { x = a.x -ℤ b.x; y = a.y -ℤ b.y; z = a.z -ℤ b.z }

abbrev det : Vec → Vec → Vec → ℤ
det a b c = dot (cross a b) c

upright : (a b : Vec) → dot (cross a b) a ≡ pos 0
upright a b = ring (a.x ∷ a.y ∷ a.z ∷ b.x ∷ b.y ∷ b.z ∷ []) (search reify depth 40 fits 200000, tt)

-- Lagrange
lagrange : (a b : Vec) → dot (cross a b) (cross a b) ≡ dot a a *ℤ dot b b -ℤ dot a b *ℤ dot a b
lagrange a b = ring (a.x ∷ a.y ∷ a.z ∷ b.x ∷ b.y ∷ b.z ∷ []) (search reify depth 40 fits 200000, tt)

-- Cramer, coordinate by coordinate
module _ (a b c d : Vec) where
  abbrev atoms : List ℤ
  atoms = a.x ∷ a.y ∷ a.z ∷ b.x ∷ b.y ∷ b.z ∷ c.x ∷ c.y ∷ c.z ∷ d.x ∷ d.y ∷ d.z ∷ []

  cramer_x : det a b c *ℤ d.x ≡ det d b c *ℤ a.x +ℤ det a d c *ℤ b.x +ℤ det a b d *ℤ c.x
  cramer_x = ring atoms (search reify depth 40 fits 200000, tt)

  cramer_y : det a b c *ℤ d.y ≡ det d b c *ℤ a.y +ℤ det a d c *ℤ b.y +ℤ det a b d *ℤ c.y
  cramer_y = ring atoms (search reify depth 40 fits 200000, tt)

  cramer_z : det a b c *ℤ d.z ≡ det d b c *ℤ a.z +ℤ det a d c *ℤ b.z +ℤ det a b d *ℤ c.z
  cramer_z = ring atoms (search reify depth 40 fits 200000, tt)

  -- a determinant seen from a fourth point
  moved : det (less a d) (less b d) (less c d) ≡ det a b c -ℤ det d b c -ℤ det a d c -ℤ det a b d
  moved = ring atoms (search reify depth 40 fits 200000, tt)

-- ---- equations under equations
module _ (a b n : Vec) (t : ℤ) where
  -- what is upright to a and to b is so to their difference
  along : dot n a ≡ pos 0 → dot n b ≡ pos 0 → dot n (less a b) ≡ pos 0
  along e f = combine₂ (pos 1) e (negsuc 0) f (ring (a.x ∷ a.y ∷ a.z ∷ b.x ∷ b.y ∷ b.z ∷ n.x ∷ n.y ∷ n.z ∷ []) (search reify depth 40 fits 200000, tt))

  scaled : a.x ≡ t *ℤ b.x → a.x *ℤ b.y ≡ t *ℤ b.x *ℤ b.y
  scaled e = combine₁ b.y e (ring (a.x ∷ b.x ∷ b.y ∷ t ∷ []) (search reify depth 40 fits 200000, tt))

  parallel : a.x ≡ t *ℤ b.x → a.y ≡ t *ℤ b.y → a.z ≡ t *ℤ b.z → dot a n ≡ t *ℤ dot b n
  parallel e f g = combine₃ n.x e n.y f n.z g (ring (a.x ∷ a.y ∷ a.z ∷ b.x ∷ b.y ∷ b.z ∷ n.x ∷ n.y ∷ n.z ∷ t ∷ []) (search reify depth 40 fits 200000, tt))
