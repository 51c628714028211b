-- Boxes, and what lies in them.
use mathlib.Core.Path.{◌≡◌, sym, subst, ◌∙◌}
use mathlib.Core.Logic.{◌⊎◌, inl, inr}
use mathlib.Core.Bool.{Bool, true, false, cond}
use lib.Dec.{lit<}
use lib.IntN.{ℤ}
use lib.Signed.{lt_z, ◌≤ℤ◌, ≤ℤ_refl}
use mir.Syntax.{w16}
use mir.Val.{to_z, of_z}
use Rattle.std.specs.Int.{int_max, int_min}
use Rattle.integer.specs.Magnitude.{Within}
use Rattle.integer.proofs.Magnitude.{within_stored}
use Rattle.integer.proofs.Order.{≤ℤ_trans}
use Rattle.model.specs.Vector.{Vec}
use Rattle.geometry.specs.Machine.{vec_of, Bounded}
use Rattle.boxes.specs.Boxes.{wide, PartsAtMost, InBox, Covers, BoxBounded, Extreme, ExtremeCorner, upward, downward, Joined, Common}
use Rattle.boxes.specs.declared.Bounds.{Bounds}
use Rattle.boxes.specs.declared.Corner.{Corner}

pub at_most_refl : (u : Vec) → PartsAtMost u u
at_most_refl u = record { x_most = ≤ℤ_refl u.x; y_most = ≤ℤ_refl u.y; z_most = ≤ℤ_refl u.z }

at_most_trans : {u v w : Vec} → PartsAtMost u v → PartsAtMost v w → PartsAtMost u w
at_most_trans h k =
    record { x_most = ≤ℤ_trans h.x_most k.x_most; y_most = ≤ℤ_trans h.y_most k.y_most; z_most = ≤ℤ_trans h.z_most k.z_most }

pub covers_refl : (b : Bounds) → Covers b b
covers_refl b = record { low_most = at_most_refl (vec_of (wide b.low)); high_least = at_most_refl (vec_of (wide b.high)) }

pub covers_trans : {a b c : Bounds} → Covers a b → Covers b c → Covers a c
covers_trans h k =
    record { low_most = at_most_trans k.low_most h.low_most; high_least = at_most_trans h.high_least k.high_least }

pub in_wider : {b r : Bounds} {c : Vec} → Covers b r → InBox b c → InBox r c
in_wider h i =
    record { low_most = at_most_trans h.low_most i.low_most; high_least = at_most_trans i.high_least h.high_least }

-- ---- the first of two corners in an order of numbers

-- a part passes through two bytes
abbrev pub stored : ℤ → ℤ
stored z = to_z w16 (of_z w16 z)

pub same : {z : ℤ} → Within 10000 z → stored z ≡ z
same h = within_stored w16 h (lit< tt)

module _ (before : ℤ → ℤ → Type 0) where
  extreme : {a b r : ℤ} → Within 10000 a → Within 10000 b → before r (stored a) → before r (stored b) → (r ≡ stored a) ⊎ (r ≡ stored b) → Extreme before a b (stored r)
  extreme {a} {b} {r} h k f g o =
      let one : (r ≡ a) ⊎ (r ≡ b) = elim o [ inl e ↦ inl (e ∙ same h) | inr e ↦ inr (e ∙ same k) ] in
      let small : Within 10000 r = elim one [ inl e ↦ subst (Within 10000) (sym e) h | inr e ↦ subst (Within 10000) (sym e) k ] in
      rw (same small) (record { to_first = subst (before r) (same h) f; to_second = subst (before r) (same k) g; one_of = one; small = small })

  extreme_bounded : {u v r : Corner} → ExtremeCorner before u v r → Bounded 10000 (wide r)
  extreme_bounded l = record { x_within = l.x_extreme.small; y_within = l.y_extreme.small; z_within = l.z_extreme.small }

either : {r x y : ℤ} (t : Bool) → r ≡ cond t x y → (r ≡ x) ⊎ (r ≡ y)
either true e = inl e
either false e = inr e

turned : {r x y : ℤ} → (r ≡ x) ⊎ (r ≡ y) → (r ≡ y) ⊎ (r ≡ x)
turned (inl e) = inr e
turned (inr e) = inl e

-- what the library's `min` and `max` say
pub least : {a b r : ℤ} → Within 10000 a → Within 10000 b → r ≡ int_min (stored a) (stored b) → r ≤ℤ stored a → r ≤ℤ stored b → Extreme upward a b (stored r)
least {a} {b} h k e f g = extreme upward h k f g (turned (either (lt_z (stored b) (stored a)) e))

pub greatest : {a b r : ℤ} → Within 10000 a → Within 10000 b → r ≡ int_max (stored a) (stored b) → stored a ≤ℤ r → stored b ≤ℤ r → Extreme downward a b (stored r)
greatest {a} {b} h k e f g = extreme downward h k f g (either (lt_z (stored b) (stored a)) e)

-- ---- two boxes

module _ {u v r : Corner} where
  first_above : ExtremeCorner upward u v r → PartsAtMost (vec_of (wide r)) (vec_of (wide u))
  first_above l = record { x_most = l.x_extreme.to_first; y_most = l.y_extreme.to_first; z_most = l.z_extreme.to_first }

  second_above : ExtremeCorner upward u v r → PartsAtMost (vec_of (wide r)) (vec_of (wide v))
  second_above l = record { x_most = l.x_extreme.to_second; y_most = l.y_extreme.to_second; z_most = l.z_extreme.to_second }

  first_below : ExtremeCorner downward u v r → PartsAtMost (vec_of (wide u)) (vec_of (wide r))
  first_below l = record { x_most = l.x_extreme.to_first; y_most = l.y_extreme.to_first; z_most = l.z_extreme.to_first }

  second_below : ExtremeCorner downward u v r → PartsAtMost (vec_of (wide v)) (vec_of (wide r))
  second_below l = record { x_most = l.x_extreme.to_second; y_most = l.y_extreme.to_second; z_most = l.z_extreme.to_second }

module _ {b c r : Bounds} where
  pub joined_first : Joined b c r → Covers b r
  joined_first j = record { low_most = first_above j.low_is; high_least = first_below j.high_is }

  pub joined_second : Joined b c r → Covers c r
  joined_second j = record { low_most = second_above j.low_is; high_least = second_below j.high_is }

  pub joined_bounded : Joined b c r → BoxBounded r
  joined_bounded j = record { low_bounded = extreme_bounded upward j.low_is; high_bounded = extreme_bounded downward j.high_is }

  pub common_first : Common b c r → Covers r b
  common_first j = record { low_most = first_below j.low_is; high_least = first_above j.high_is }

  pub common_second : Common b c r → Covers r c
  common_second j = record { low_most = second_below j.low_is; high_least = second_above j.high_is }

  pub common_bounded : Common b c r → BoxBounded r
  common_bounded j = record { low_bounded = extreme_bounded downward j.low_is; high_bounded = extreme_bounded upward j.high_is }
