-- The corner of a box that a normal chooses, and the part that each axis gives to a number.
use mathlib.Core.Path.{sym, ap, subst, ◌∙◌}
use mathlib.Core.Logic.{◌⊎◌, inl, inr}
use mathlib.Core.List.{[], ◌∷◌, Memᴰ}
use Prim.Native.Nat.{ℕ}
use lib.Dec.{lit<}
use lib.IntN.{ℤ, pos, ◌-ℤ◌, ◌*ℤ◌}
use lib.Signed.{◌<ℤ◌, ◌≤ℤ◌, clash_ℤ}
use mir.Syntax.{w64}
use mir.Val.{to_z, of_z}
use Rattle.integer.specs.Magnitude.{Within}
use Rattle.integer.proofs.Magnitude.{within_stored}
use Rattle.integer.proofs.Identity.{ring, reify}
use Rattle.integer.proofs.Order.{<_by, ≤_by, ≤_diff, <_diff, +_pos_nonneg, ≤ℤ-<ℤ_trans}
use Rattle.integer.proofs.Products.{*_nonneg, *_nonpos_nonpos, *_pos, *_neg_neg}
use Rattle.model.specs.Vector.{Vec}
use Rattle.model.specs.Patch.{Patch}
use Rattle.geometry.specs.Machine.{Bounded}
use Rattle.geometry.specs.declared.Vector.{Vector}
use Rattle.boxes.specs.Boxes.{wide}
use Rattle.boxes.specs.Enclosed.{Along}
use Rattle.boxes.specs.declared.Corner.{Corner}
use Rattle.box_sides.specs.Beyond.{EndBy, CornerBy, Free, rising, falling}
use Rattle.boxes.proofs.BoxLaws.{stored, same}

-- ---- the corner of a box that a normal chooses

end_within : {n low high r : ℤ} {m : ℕ} → EndBy n low high r → Within m low → Within m high → Within m r
end_within (rising h e) a b = subst (Within _) (sym e) a
end_within (falling h e) a b = subst (Within _) (sym e) b

-- a number that passed through a word
abbrev pub word : ℤ → ℤ
word z = to_z w64 (of_z w64 z)

-- on three axes, where the normal's part passed through a word and each end through two bytes
pub corner_by :
    {normal : Vector} {low high : Corner} {x y z : ℤ} → Bounded 800000000 normal → Bounded 10000 (wide low) → Bounded 10000 (wide high) →
    EndBy (word normal.x) (stored low.x) (stored high.x) x →
    EndBy (word normal.y) (stored low.y) (stored high.y) y →
    EndBy (word normal.z) (stored low.z) (stored high.z) z →
    CornerBy normal low high (record { x = stored x; y = stored y; z = stored z })
corner_by n l h a b c =
    record {
      x_end = axis n.x_within l.x_within h.x_within a;
      y_end = axis n.y_within l.y_within h.y_within b;
      z_end = axis n.z_within l.z_within h.z_within c;
    }
  where
    axis :
        {n low high r : ℤ} → Within 800000000 n → Within 10000 low → Within 10000 high →
        EndBy (word n) (stored low) (stored high) r → EndBy n low high (stored r)
    axis n l h (rising s e) = rising (subst (λ (z : ℤ). pos 0 ≤ℤ z) (within_stored w64 n (lit< tt)) s) (ap stored (e ∙ same l) ∙ same l)
    axis n l h (falling s e) = falling (subst (λ (z : ℤ). z ≤ℤ pos 0) (within_stored w64 n (lit< tt)) s) (ap stored (e ∙ same h) ∙ same h)

pub corner_bounded : {normal : Vector} {low high r : Corner} {m : ℕ} → CornerBy normal low high r → Bounded m (wide low) → Bounded m (wide high) → Bounded m (wide r)
corner_bounded c a b =
    record {
      x_within = end_within c.x_end a.x_within b.x_within;
      y_within = end_within c.y_end a.y_within b.y_within;
      z_within = end_within c.z_end a.z_within b.z_within;
    }

-- on one axis: d is a distance along it, to the end or from it
module _ {n s t m : ℤ} (d : ℤ → ℤ) where
  end_first : EndBy n s t m → pos 0 ≤ℤ d s → d t ≤ℤ pos 0 → pos 0 ≤ℤ (n *ℤ d m)
  end_first (rising h e) a b = subst (λ (z : ℤ). pos 0 ≤ℤ (n *ℤ d z)) (sym e) (*_nonneg h a)
  end_first (falling h e) a b = subst (λ (z : ℤ). pos 0 ≤ℤ (n *ℤ d z)) (sym e) (*_nonpos_nonpos h b)

short : {a b : ℤ} → a ≤ℤ b → (a -ℤ b) ≤ℤ pos 0
short {a} {b} h = ≤_by (≤_diff h) (ring (a ∷ b ∷ []) (search reify depth 40 fits 200000, tt))

lt_le : {a b c : ℤ} → a <ℤ b → b ≤ℤ c → a <ℤ c
lt_le {a} {b} {c} h k = <_by (+_pos_nonneg (<_diff h) (≤_diff k)) (ring (a ∷ b ∷ c ∷ []) (search reify depth 40 fits 200000, tt))

less : {a b : ℤ} → a <ℤ b → (a -ℤ b) <ℤ pos 0
less {a} {b} h = <_by (<_diff h) (ring (a ∷ b ∷ []) (search reify depth 40 fits 200000, tt))

-- where no patch lies in an end of the box, each has a corner off the end: to it, and from it
module _ {n low high il ih m : ℤ} {axis : Vec → ℤ} {p : Patch} (free : Free n low high il ih) (along : Along axis il ih p) where
  off_least : EndBy n low high m → (c : Vec) × Memᴰ c p.corners × (pos 0 <ℤ (n *ℤ (axis c -ℤ m)))
  off_least (rising h e) = go free.slanted
    where
      go : (n <ℤ pos 0) ⊎ (pos 0 <ℤ n) → (c : Vec) × Memᴰ c p.corners × (pos 0 <ℤ (n *ℤ (axis c -ℤ m)))
      go (inl l) = clash_ℤ l h
      go (inr l) = (along.up.0, along.up.1, rw e (*_pos l (<_diff (lt_le free.up along.up.2))))
  off_least (falling h e) = go free.slanted
    where
      go : (n <ℤ pos 0) ⊎ (pos 0 <ℤ n) → (c : Vec) × Memᴰ c p.corners × (pos 0 <ℤ (n *ℤ (axis c -ℤ m)))
      go (inl l) = (along.down.0, along.down.1, rw e (*_neg_neg l (less (≤ℤ-<ℤ_trans along.down.2 free.down))))
      go (inr l) = clash_ℤ l h

  off_greatest : EndBy n high low m → (c : Vec) × Memᴰ c p.corners × (pos 0 <ℤ (n *ℤ (m -ℤ axis c)))
  off_greatest (rising h e) = go free.slanted
    where
      go : (n <ℤ pos 0) ⊎ (pos 0 <ℤ n) → (c : Vec) × Memᴰ c p.corners × (pos 0 <ℤ (n *ℤ (m -ℤ axis c)))
      go (inl l) = clash_ℤ l h
      go (inr l) = (along.down.0, along.down.1, rw e (*_pos l (<_diff (≤ℤ-<ℤ_trans along.down.2 free.down))))
  off_greatest (falling h e) = go free.slanted
    where
      go : (n <ℤ pos 0) ⊎ (pos 0 <ℤ n) → (c : Vec) × Memᴰ c p.corners × (pos 0 <ℤ (n *ℤ (m -ℤ axis c)))
      go (inl l) = (along.up.0, along.up.1, rw e (*_neg_neg l (less (lt_le free.up along.up.2))))
      go (inr l) = clash_ℤ l h

-- the part of a corner's number that an axis gives is not negative, and positive for some corner where the axis is free
pub record Part (p : Patch) (part : Vec → ℤ) (free : Type 0) : Type 0 where
  pub none_below : (c : Vec) → Memᴰ c p.corners → pos 0 ≤ℤ part c
  pub one_above_lem : free → (c : Vec) × Memᴰ c p.corners × (pos 0 <ℤ part c)

module _ (axis : Vec → ℤ) {n low high il ih m : ℤ} {p : Patch} (inside : (c : Vec) → Memᴰ c p.corners → (low ≤ℤ axis c) × (axis c ≤ℤ high))
    (along : Along axis il ih p) where
  pub front_part : EndBy n low high m → Part p (λ (c : Vec). n *ℤ (axis c -ℤ m)) (Free n low high il ih)
  front_part k =
      record {
        none_below = λ c i. end_first (λ (z : ℤ). axis c -ℤ z) k (≤_diff (inside c i).0) (short (inside c i).1);
        one_above_lem = λ f. off_least f along k;
      }

  pub behind_part : EndBy n high low m → Part p (λ (c : Vec). n *ℤ (m -ℤ axis c)) (Free n low high il ih)
  behind_part k =
      record {
        none_below = λ c i. end_first (λ (z : ℤ). z -ℤ axis c) k (≤_diff (inside c i).1) (short (inside c i).0);
        one_above_lem = λ f. off_greatest f along k;
      }
