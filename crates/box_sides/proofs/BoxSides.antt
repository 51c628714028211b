-- An extent on one side of a plane, and the patches in it.
use mathlib.Core.Path.{◌≡◌, refl, sym, ap, ap₂, subst, ◌∙◌}
use mathlib.Core.Logic.{◌⊎◌}
use mathlib.Core.Bool.{Bool, true, false, not, ◌&&◌, ◌||◌, beq, true≢false}
use mathlib.Core.List.{List, [], ◌∷◌, Memᴰ}
use lib.Dec.{lit<}
use lib.IntN.{ℤ, pos, neg_ℤ, ◌-ℤ◌}
use lib.Signed.{◌<ℤ◌, ◌≤ℤ◌}
use mir.Syntax.{w64}
use Rattle.integer.specs.Magnitude.{Within}
use Rattle.integer.proofs.Magnitude.{within_stored}
use Rattle.integer.proofs.Machine.{machine, exact}
use Rattle.integer.proofs.Identity.{ring, reify}
use Rattle.integer.proofs.Order.{<_by, ≤_by, lt_lt_z, le_lt_z}
use Rattle.model.specs.Lists.{any}
use Rattle.model.specs.Patch.{Patch}
use Rattle.model.proofs.Tests.{is_true, any_true, true_of}
use Rattle.geometry.specs.Machine.{vec_of, NumberIs}
use Rattle.halfspaces.specs.Sides.{side_of, on_negative, on_positive, held}
use Rattle.boxes.specs.Boxes.{wide}
use Rattle.boxes.specs.Enclosed.{Encloses}
use Rattle.box_sides.specs.Beyond.{CornerBy, Free, FreeAxis, LeastNumber, AllHeld}
use Rattle.boxes.specs.declared.Bounds.{Bounds}
use Rattle.boxes.specs.declared.Corner.{Corner}
use Rattle.boxes.specs.declared.Extent.{Extent}
use Rattle.halfspaces.specs.declared.planes.Plane.{Plane}
use Rattle.halfspaces.specs.declared.planes.Sides.{Sides}
use Rattle.boxes.proofs.BoxLaws.{stored, same}
use Rattle.box_sides.proofs.BoxCorners.{word}
use Rattle.box_sides.proofs.BoxTold.{Told, front_beyond, behind_beyond}

-- ---- what the machine finds, where each number passed through a word

module _ (s : Plane) (m : Corner) {z : ℤ} (is : NumberIs 48000000000000 (side_of s (vec_of (wide m))) z) where
  value_is : word z ≡ side_of s (vec_of (wide m))
  value_is = within_stored w64 is.bounded (lit< tt) ∙ is.value

  pub least_in_front : {b : Bounds} {front : Bool} → front ≡ true → CornerBy s.normal b.low b.high m → LeastNumber b s front (word z)
  least_in_front y k = record { in_front = λ e. (m, k, sym value_is); behind = λ e. absurd (true≢false (sym y ∙ e)) }

  turned_is : word (pos 0 -ℤ word z) ≡ neg_ℤ z
  turned_is = let h : Within 48000000000000 z = is.bounded in exact w64 (search machine depth 40 fits 20000, tt, refl)

  pub least_behind : {b : Bounds} {front : Bool} → front ≡ false → CornerBy s.normal b.high b.low m → LeastNumber b s front (word (pos 0 -ℤ word z))
  least_behind n k =
      record {
        in_front = λ y. absurd (true≢false (sym y ∙ n));
        behind = λ y. (m, k, sym (turned_is ∙ ap neg_ℤ is.value));
      }

pub free_stored :
    {n low high il ih : ℤ} {r : Bool} → Within 800000000 n → Within 10000 low → Within 10000 high → Within 10000 il → Within 10000 ih →
    FreeAxis (word n) (stored low) (stored high) (stored il) (stored ih) r → r ≡ true → Free n low high il ih
free_stored {n} {low} {high} {il} {ih} a b c d e f y =
    let g = f.says y in
    record {
      slanted = subst (λ (z : ℤ). (z <ℤ pos 0) ⊎ (pos 0 <ℤ z)) (within_stored w64 a (lit< tt)) g.slanted;
      up = subst (λ (z : ℤ). low <ℤ z) (same e) (subst (λ (z : ℤ). z <ℤ stored ih) (same b) g.up);
      down = subst (λ (z : ℤ). il <ℤ z) (same c) (subst (λ (z : ℤ). z <ℤ stored high) (same d) g.down);
    }

-- ---- a patch held

module _ {A : Type 0} (test : A → Bool) where
  any_passes : (l : List A) {a : A} → Memᴰ a l → test a ≡ true → any test l ≡ true
  any_passes l m e = true_of ((any_true test l).1 (_, m, is_true e))

  none_passes : (l : List A) → ((a : A) → Memᴰ a l → test a ≡ false) → any test l ≡ false
  none_passes [] f = refl
  none_passes (a ∷ l) f = ap₂ ◌||◌ (f a (Memᴰ.head refl)) (none_passes l (λ x m. f x (Memᴰ.tail m)))

module _ (s : Plane) (wanted : Sides) where
  held_by :
      (p : Patch) → any (on_negative s) p.corners ≡ wanted.negative → any (on_positive s) p.corners ≡ wanted.positive →
      held s wanted p ≡ true
  unfolding held
  held_by p h k = rw (h, k) (ap₂ ◌&&◌ (same_bit wanted.negative) (same_bit wanted.positive))
    where
      same_bit : (b : Bool) → beq b b ≡ true
      same_bit true = refl
      same_bit false = refl

  -- the number tells of every patch enclosed
  pub all_told : {e : Extent} {z : ℤ} {r : Bool} →
      wanted.negative ≡ not wanted.positive →
      LeastNumber e.outer s wanted.positive z →
      (r ≡ true → Told e s.normal z) →
      AllHeld e s wanted r
  all_told {e} {z} n least t = record { says = λ y p i. go wanted.positive refl i (t y) }
    where
      turned-< : (z : ℤ) → pos 0 <ℤ neg_ℤ z → z <ℤ pos 0
      turned-< z h = <_by h (ring (z ∷ []) (search reify depth 40 fits 200000, tt))

      turned-≤ : (z : ℤ) → pos 0 ≤ℤ neg_ℤ z → z ≤ℤ pos 0
      turned-≤ z h = ≤_by h (ring (z ∷ []) (search reify depth 40 fits 200000, tt))

      go : {p : Patch} (front : Bool) → wanted.positive ≡ front → Encloses e p → Told e s.normal z → held s wanted p ≡ true
      go {p} true y i t =
          let o = least.in_front y in
          let b = front_beyond i s o.1 (subst (Told e s.normal) (sym o.2) t) in
          held_by p (none_passes (on_negative s) p.corners (λ c m. le_lt_z (b.none_below c m)) ∙ sym (n ∙ ap not y))
          (any_passes (on_positive s) p.corners b.one_above_lem.1 (lt_lt_z b.one_above_lem.2) ∙ sym y)
      go {p} false y i t =
          let o = least.behind y in
          let b = behind_beyond i s o.1 (subst (Told e s.normal) (sym o.2) t) in
          held_by p
          (any_passes (on_negative s) p.corners b.one_above_lem.1 (lt_lt_z (turned-< (side_of s b.one_above_lem.0) b.one_above_lem.2)) ∙ sym (n ∙ ap not y))
          (none_passes (on_positive s) p.corners (λ c m. le_lt_z (turned-≤ (side_of s c) (b.none_below c m))) ∙ sym y)

-- two sides that differ
pub opposite : (a b : Bool) → beq a b ≡ false → a ≡ not b
opposite true true e = e
opposite true false e = refl
opposite false true e = refl
opposite false false e = sym e
