-- What the number of a box's corner tells of the patches enclosed.
use mathlib.Core.Path.{◌≡◌, subst}
use mathlib.Core.List.{[], ◌∷◌, Memᴰ}
use lib.IntN.{ℤ, pos, neg_ℤ, ◌+ℤ◌, ◌-ℤ◌, ◌*ℤ◌}
use lib.Signed.{◌<ℤ◌, ◌≤ℤ◌}
use Rattle.integer.proofs.Identity.{ring, reify}
use Rattle.integer.proofs.Order.{+_nonneg, +_pos_nonneg, +_nonneg_pos, <→≤}
use Rattle.model.specs.Vector.{Vec}
use Rattle.model.specs.Patch.{Patch}
use Rattle.geometry.specs.Machine.{vec_of}
use Rattle.geometry.specs.declared.Vector.{Vector}
use Rattle.halfspaces.specs.Sides.{side_of}
use Rattle.boxes.specs.Boxes.{wide}
use Rattle.boxes.specs.Enclosed.{Encloses}
use Rattle.boxes.specs.declared.Corner.{Corner}
use Rattle.box_sides.specs.Beyond.{CornerBy, Free, SomeFree, x_free, y_free, z_free}
use Rattle.boxes.specs.declared.Extent.{Extent}
use Rattle.halfspaces.specs.declared.planes.Plane.{Plane}
use Rattle.box_sides.proofs.BoxCorners.{Part, front_part, behind_part}

-- no corner has a negative number, and one has a positive one
pub record Beyond (number : Vec → ℤ) (p : Patch) : Type 0 where
  pub none_below : (c : Vec) → Memᴰ c p.corners → pos 0 ≤ℤ number c
  pub one_above_lem : (c : Vec) × Memᴰ c p.corners × (pos 0 <ℤ number c)

-- why a box's corner tells: it is beyond the plane, or on it with an axis free
pub data Told (e : Extent) (normal : Vector) (base : ℤ) : Type 0 where
  strictly : pos 0 <ℤ base → Told e normal base
  touching : SomeFree e normal → pos 0 ≤ℤ base → Told e normal base

-- a corner's number is that of the box's corner and a part for each axis
module _ {e : Extent} {normal : Vector} {p : Patch} (number f g h : Vec → ℤ) {base : ℤ} (sum : (c : Vec) → base +ℤ f c +ℤ g c +ℤ h c ≡ number c)
    (x : Part p f (Free normal.x e.outer.low.x e.outer.high.x e.inner.low.x e.inner.high.x))
    (y : Part p g (Free normal.y e.outer.low.y e.outer.high.y e.inner.low.y e.inner.high.y))
    (z : Part p h (Free normal.z e.outer.low.z e.outer.high.z e.inner.low.z e.inner.high.z)) where
  all_above : pos 0 ≤ℤ base → (c : Vec) → Memᴰ c p.corners → pos 0 ≤ℤ number c
  all_above b c m =
      subst (λ (v : ℤ). pos 0 ≤ℤ v) (sum c) (+_nonneg (+_nonneg (+_nonneg b (x.none_below c m)) (y.none_below c m)) (z.none_below c m))

  told : (c : Vec) → Memᴰ c p.corners → Told e normal base → Beyond number p
  told c m (strictly b) =
      record {
        none_below = all_above (<→≤ b);
        one_above_lem = (
          c,
          m,
          subst (λ (v : ℤ). pos 0 <ℤ v) (sum c)
              (+_pos_nonneg (+_pos_nonneg (+_pos_nonneg b (x.none_below c m)) (y.none_below c m)) (z.none_below c m)),
        );
      }
  told w n (touching free b) = record { none_below = all_above b; one_above_lem = go free }
    where
      go : SomeFree e normal → (c : Vec) × Memᴰ c p.corners × (pos 0 <ℤ number c)
      go (x_free i) =
          let o = x.one_above_lem i in
          let c = o.0 in
          let m = o.1 in
          (c, m, subst (λ (v : ℤ). pos 0 <ℤ v) (sum c) (+_pos_nonneg (+_pos_nonneg (+_nonneg_pos b o.2) (y.none_below c m)) (z.none_below c m)))
      go (y_free i) =
          let o = y.one_above_lem i in
          let c = o.0 in
          let m = o.1 in
          (c, m, subst (λ (v : ℤ). pos 0 <ℤ v) (sum c) (+_pos_nonneg (+_nonneg_pos (+_nonneg b (x.none_below c m)) o.2) (z.none_below c m)))
      go (z_free i) =
          let o = z.one_above_lem i in
          let c = o.0 in
          let m = o.1 in
          (c, m, subst (λ (v : ℤ). pos 0 <ℤ v) (sum c) (+_nonneg_pos (+_nonneg (+_nonneg b (x.none_below c m)) (y.none_below c m)) o.2))

front_sum :
    (s : Plane) (m c : Vec) →
    side_of s m +ℤ s.normal.x *ℤ (c.x -ℤ m.x) +ℤ s.normal.y *ℤ (c.y -ℤ m.y) +ℤ s.normal.z *ℤ (c.z -ℤ m.z) ≡ side_of s c
front_sum s m c =
    ring
    (s.normal.x ∷ s.normal.y ∷ s.normal.z ∷ s.level ∷ m.x ∷ m.y ∷ m.z ∷ c.x ∷ c.y ∷ c.z ∷ [])
    (search reify depth 40 fits 200000, tt)

behind_sum :
    (s : Plane) (m c : Vec) →
    neg_ℤ (side_of s m) +ℤ s.normal.x *ℤ (m.x -ℤ c.x) +ℤ s.normal.y *ℤ (m.y -ℤ c.y) +ℤ s.normal.z *ℤ (m.z -ℤ c.z) ≡ neg_ℤ (side_of s c)
behind_sum s m c =
    ring
    (s.normal.x ∷ s.normal.y ∷ s.normal.z ∷ s.level ∷ m.x ∷ m.y ∷ m.z ∷ c.x ∷ c.y ∷ c.z ∷ [])
    (search reify depth 40 fits 200000, tt)

module _ {e : Extent} {p : Patch} (i : Encloses e p) where
  x_in : (c : Vec) → Memᴰ c p.corners → (e.outer.low.x ≤ℤ c.x) × (c.x ≤ℤ e.outer.high.x)
  x_in c j = let b = i.corners_in c j in (b.low_most.x_most, b.high_least.x_most)

  y_in : (c : Vec) → Memᴰ c p.corners → (e.outer.low.y ≤ℤ c.y) × (c.y ≤ℤ e.outer.high.y)
  y_in c j = let b = i.corners_in c j in (b.low_most.y_most, b.high_least.y_most)

  z_in : (c : Vec) → Memᴰ c p.corners → (e.outer.low.z ≤ℤ c.z) × (c.z ≤ℤ e.outer.high.z)
  z_in c j = let b = i.corners_in c j in (b.low_most.z_most, b.high_least.z_most)

  pub front_beyond : (s : Plane) {m : Corner} → CornerBy s.normal e.outer.low e.outer.high m → Told e s.normal (side_of s (vec_of (wide m))) → Beyond (side_of s) p
  front_beyond s {m} k =
      told (side_of s) _ _ _ (front_sum s (vec_of (wide m))) (front_part (λ (c : Vec). c.x) x_in i.x_along k.x_end)
      (front_part (λ (c : Vec). c.y) y_in i.y_along k.y_end)
      (front_part (λ (c : Vec). c.z) z_in i.z_along k.z_end)
      i.x_along.up.0
      i.x_along.up.1

  pub behind_beyond :
      (s : Plane) {m : Corner} → CornerBy s.normal e.outer.high e.outer.low m → Told e s.normal (neg_ℤ (side_of s (vec_of (wide m)))) →
      Beyond (λ (c : Vec). neg_ℤ (side_of s c)) p
  behind_beyond s {m} k =
      told (λ (c : Vec). neg_ℤ (side_of s c)) _ _ _ (behind_sum s (vec_of (wide m))) (behind_part (λ (c : Vec). c.x) x_in i.x_along k.x_end)
      (behind_part (λ (c : Vec). c.y) y_in i.y_along k.y_end)
      (behind_part (λ (c : Vec). c.z) z_in i.z_along k.z_end)
      i.x_along.up.0
      i.x_along.up.1
