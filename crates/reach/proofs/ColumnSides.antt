-- The corners of a patch, one after another, held to the planes of the first column and of the last.
use mathlib.Core.Path.{◌≡◌, refl, sym, ap, ap₂, subst, subst₂, ◌∙◌}
use mathlib.Core.Logic.{◌≢◌, ◌⊎◌, inl, inr}
use mathlib.Core.List.Memᴰ
use mathlib.Core.List.{List, [], ◌∷◌, map, Memᴰ}
use Prim.Native.Nat.{ℕ, zero, suc, ◌+◌, ◌-◌, ◌≤◌, ◌<◌}
use native.Mathlib.Nat.{add-zero}
use native.Mathlib.Omega.{arith}
use lib.Dec.{T, eqb, eqb_refl, lit<, lt→ltb, le→leb}
use lib.ListN.{length, get_or}
use lib.IntN.{ℤ, pos, negsuc, ◌+ℤ◌, ◌-ℤ◌, ◌*ℤ◌}
use lib.Signed.{◌<ℤ◌, ◌≤ℤ◌, lt_z_yes, le_z_yes}
use mir.Syntax.{w64}
use mir.Val.{to_z, of_z, SFits}
use mathlib.Core.Bool.{Bool, true, false}
use Rattle.std.specs.Prelude.{◌↔◌}
use Rattle.std.specs.Bool.{MatchBool}
use Rattle.std.specs.List.{AllWithin, HoldsAt, range_with_len}
use Rattle.std.proofs.lemmas.List.FromFn.{length-range_with_len, get_or-range_with_len}
use Rattle.integer.specs.Magnitude.{Within, sign_of}
use Rattle.integer.proofs.Identity.{ring, reify}
use Rattle.integer.proofs.Magnitude.{within_literal, within_fits}
use Rattle.integer.proofs.Machine.{machine, casts, exact, magnitude, no_overflow}
use Rattle.integer.proofs.Order.{<_by, ≤_by, <_diff, ≤_diff, <→≤, <_suc, <_or-≥, +_pos_nonneg}
use Rattle.integer.proofs.Products.{*_pos, *_neg_neg, *_nonneg, *_nonpos_nonpos}
use Rattle.model.specs.Lists.{range}
use Rattle.model.specs.Vector.{Vec, minus, plus, times, dot}
use Rattle.model.specs.Bounds.{VecWithin}
use Rattle.model.specs.Patch.{Patch, corner, Proper}
use Rattle.model.proofs.Patches.{first_corner}
use Rattle.model.proofs.Alike.{Ranged}
use Rattle.model.proofs.Ranges.{of_map, of_range, in_range}
use Rattle.geometry.specs.declared.Raster.{Raster}
use Rattle.geometry.specs.Machine.{vec_of, NumberIs}
use Rattle.reach.specs.declared.Planes.{Planes}
use Rattle.reach.specs.Planes.{PlanesOf, normal_at}
use Rattle.reach.specs.Columns.{number_of, CommonSign, HasSign, OneSided, MissedBeside}
use Rattle.reach.proofs.BesidePlanes.{column_missed}

-- ---- the last column, as the machine has it

module _ {width : ℕ} (narrow : width ≤ 1024) where
  wide : Within 1024 (pos width)
  wide = record { within = narrow }

  pub width_fits : SFits w64 (pos width)
  width_fits = within_fits wide (lit< tt)

  pub last_column_fits : SFits w64 (to_z w64 width -ℤ pos 1)
  last_column_fits = no_overflow (search (machine, casts, wide) depth 40 fits 20000, tt)

  pub last_column : to_z w64 (of_z w64 (to_z w64 width -ℤ pos 1)) ≡ pos width -ℤ pos 1
  last_column = exact w64 (search (machine, casts, wide) depth 40 fits 20000, tt, refl)

  pub last_column_within : Within 1025 (to_z w64 (of_z w64 (to_z w64 width -ℤ pos 1)))
  last_column_within = magnitude w64 (search (machine, casts, wide) depth 40 fits 20000, tt, tt)

-- ---- one corner

-- its numbers, as the machine has them
module _ {u v A B L : ℤ} (slope : NumberIs 48000000000000 u A) (start : NumberIs 48000000000000 v B) (wide : Within 1025 L) where
  pub product_fits : SFits w64 (to_z w64 (of_z w64 A) *ℤ to_z w64 (of_z w64 L))
  product_fits = no_overflow (search machine depth 40 fits 20000, tt)

  pub last_fits : SFits w64 (to_z w64 (of_z w64 (to_z w64 (of_z w64 A) *ℤ to_z w64 (of_z w64 L))) +ℤ to_z w64 (of_z w64 B))
  last_fits = no_overflow (search machine depth 40 fits 20000, tt)

  pub first_number : to_z w64 (of_z w64 B) ≡ u *ℤ pos 0 +ℤ v
  first_number = exact w64 (search machine depth 40 fits 20000, tt, start.value ∙ ring (u ∷ v ∷ []) (search reify depth 40 fits 200000, tt))

  pub last_number :
      to_z w64 (of_z w64 (to_z w64 (of_z w64 (to_z w64 (of_z w64 A) *ℤ to_z w64 (of_z w64 L))) +ℤ to_z w64 (of_z w64 B))) ≡ u *ℤ L +ℤ v
  last_number = exact w64 (search machine depth 40 fits 20000, tt, ap₂ (λ (a b : ℤ). a *ℤ L +ℤ b) slope.value start.value)

module _ {a b x y s t : ℤ} (first_is_lem : x ≡ a) (last_is : y ≡ b) (sign_is : s ≡ sign_of x) (other_is : t ≡ sign_of y) where
  of_first : s ≡ sign_of a
  of_first = sign_is ∙ ap sign_of first_is_lem

  of_last : t ≡ sign_of b
  of_last = other_is ∙ ap sign_of last_is

  pub signs_differ : t ≢ s → CommonSign a b (pos 0)
  signs_differ f = record { is = λ sign strict. (λ e. absurd (strict (sym e)), λ h. absurd (f (of_last ∙ h.1 ∙ sym (of_first ∙ h.0)))) }

  pub signs_agree : {r : ℤ} → t ≡ s → r ≡ s → CommonSign a b r
  signs_agree e g =
      record { is = λ sign strict. (λ h. (sym of_first ∙ sym g ∙ h, sym of_last ∙ e ∙ sym g ∙ h), λ h. g ∙ of_first ∙ h.0) }

-- ---- the corners of a run

-- the sign that the code found for corner m is that of the first corner, or it is another
module _ (eye : Vec) (n : Planes) (last : ℤ) (corner : ℕ → Vec) (first : ℕ) (side : ℤ) where
  abbrev pub HasSame : ℕ → Type 0
  HasSame m =
      (r : ℤ) × CommonSign (number_of eye n (corner (first + m)) (pos 0)) (number_of eye n (corner (first + m)) last) r × (r ≡ side)

  abbrev pub HasOther : ℕ → Type 0
  HasOther m =
      (r : ℤ) × CommonSign (number_of eye n (corner (first + m)) (pos 0)) (number_of eye n (corner (first + m)) last) r
      × (eqb (of_z w64 r) (of_z w64 side) ≡ false)

module _ {eye : Vec} {n : Planes} {last : ℤ} (corner : ℕ → Vec) (first count : ℕ) where
  -- a corner tells the sign that all have, if they have one
  sign_told :
      {r : ℤ} {k : ℕ} → k < count → CommonSign (number_of eye n (corner (first + k)) (pos 0)) (number_of eye n (corner (first + k)) last) r →
      (o : OneSided eye n last (map corner (range first count))) → r ≡ o.sign
  sign_told {r} {k} h common o =
      (common.is o.sign o.strict).1
      (o.all (corner (first + k)) (Memᴰ.map corner ((in_range first count (first + k)).1 (omega arith, omega arith))))

  module _ {c : Vec} {side : ℤ} (some : 0 < count) (is_first : c ≡ corner first) (told : CommonSign (number_of eye n c (pos 0)) (number_of eye n c last) side) where
    pub no_sign : side ≡ pos 0 → OneSided eye n last (map corner (range first count)) → ⊥
    no_sign e o = o.strict (sym (sign_told {k = 0} some (rw (add-zero first, sym is_first) told) o) ∙ e)

    -- the corners after the first are asked one after another
    pub sided_exactly :
        (all : Bool) → side ≢ pos 0 →
        MatchBool all (AllWithin (HasSame eye n last corner first side) (range_with_len 1 (count - 1)) 0 (length (range_with_len 1 (count - 1))))
        ((k : ℕ) × (k < length (range_with_len 1 (count - 1))) × HoldsAt (HasOther eye n last corner first side) (range_with_len 1 (count - 1)) k) →
        T all ↔ OneSided eye n last (map corner (range first count))
    sided_exactly true strict same = (
      λ t. record {
        sign = side;
        strict = strict;
        all =
            of_map (HasSign eye n last side) corner (range first count)
            (of_range (λ (m : ℕ). HasSign eye n last side (corner m)) first count (λ m l. has m (omega arith)));
      },
      λ o. tt,
    )
      where
        has : (m : ℕ) → m < count → HasSign eye n last side (corner (first + m))
        has zero h = subst (HasSign eye n last side) (is_first ∙ ap corner (sym (add-zero first))) ((told.is side strict).0 refl)
        has (suc m) h =
            let found = same m 0 (omega arith) (rw (length-range_with_len 1 (count - 1)) (omega arith)) in
            let at : get_or (range_with_len 1 (count - 1)) m 0 ≡ suc m = get_or-range_with_len 1 (count - 1) m 0 (omega arith) ∙ omega arith in
            let f : HasSame eye n last corner first side (suc m) = subst (HasSame eye n last corner first side) at found in
            (f.1.is side strict).0 f.2
    sided_exactly false strict other = (λ t. absurd t, λ o. go o)
      where
        go : OneSided eye n last (map corner (range first count)) → ⊥
        go o =
            let k : ℕ = other.0 in
            let b : k < count - 1 = rw (sym (length-range_with_len 1 (count - 1))) other.1 in
            let at : get_or (range_with_len 1 (count - 1)) k 0 ≡ 1 + k = get_or-range_with_len 1 (count - 1) k 0 b in
            let f : HasOther eye n last corner first side (1 + k) = subst (HasOther eye n last corner first side) at (other.2 0) in
            let e : f.0 ≡ side = sign_told (omega arith) f.1 o ∙ sym (sign_told {k = 0} some (rw (add-zero first, sym is_first) told) o) in
            subst T f.2 (subst (λ (z : ℤ). T (eqb (of_z w64 z) (of_z w64 side))) (sym e) (eqb_refl (of_z w64 side)))

-- what is said of the corners in a run is said of the patch's
module _ {eye : Vec} {n : Planes} {stored last : ℤ} {corners listed : List Vec} (last_is : stored ≡ last) (corners_are : corners ≡ listed) where
  pub said_no : (OneSided eye n stored listed → ⊥) → OneSided eye n last corners → ⊥
  said_no f o = f (subst₂ (OneSided eye n) (sym last_is) corners_are o)

  pub said_yes : OneSided eye n stored listed → OneSided eye n last corners
  said_yes o = subst₂ (OneSided eye n) last_is (sym corners_are) o

-- ---- all columns

record Sided (sign a : ℤ) : Type 0 where
  small : Within 1 sign
  above : pos 0 <ℤ (sign *ℤ a)

-- a number times its sign
sided : (sign a : ℤ) → sign ≢ pos 0 → sign_of a ≡ sign → Sided sign a
unfolding sign_of
sided sign a strict e = subst (λ (s : ℤ). Sided s a) e (go a (λ z. strict (sym e ∙ z)))
  where
    go : (a : ℤ) → sign_of a ≢ pos 0 → Sided (sign_of a) a
    go (pos zero) f = absurd (f refl)
    go (pos (suc m)) f = record { small = within_literal tt; above = *_pos {a = pos 1} {b = pos (suc m)} (lt_z_yes tt) (lt_z_yes (lt→ltb zero (suc m) (omega arith))) }
    go (negsuc m) f = record { small = within_literal tt; above = *_neg_neg {a = negsuc 0} {b = negsuc m} (lt_z_yes tt) (lt_z_yes tt) }

-- a number that changes evenly and is above 0 at both ends is above 0 between them
between :
    (slope start last sign i : ℤ) → pos 0 ≤ℤ i → i ≤ℤ last → pos 0 <ℤ (sign *ℤ (slope *ℤ pos 0 +ℤ start)) → pos 0 <ℤ (sign *ℤ (slope *ℤ last +ℤ start)) →
    pos 0 <ℤ (sign *ℤ (slope *ℤ i +ℤ start))
between slope start last sign i low high at_first at_last = go (<_or-≥ (sign *ℤ slope) (pos 0))
  where
    go : ((sign *ℤ slope) <ℤ pos 0) ⊎ (pos 0 ≤ℤ (sign *ℤ slope)) → pos 0 <ℤ (sign *ℤ (slope *ℤ i +ℤ start))
    go (inl falls) =
        <_by (+_pos_nonneg at_last (*_nonpos_nonpos {b = i -ℤ last} (<→≤ falls) (≤_by (≤_diff high) (ring (i ∷ last ∷ []) (search reify depth 40 fits 200000, tt)))))
        (ring (slope ∷ start ∷ last ∷ sign ∷ i ∷ []) (search reify depth 40 fits 200000, tt))
    go (inr grows) =
        <_by (+_pos_nonneg at_first (*_nonneg grows low)) (ring (slope ∷ start ∷ last ∷ sign ∷ i ∷ []) (search reify depth 40 fits 200000, tt))

-- column i is not beyond the last
last_most : (i width : ℤ) → i <ℤ width → i ≤ℤ (width -ℤ pos 1)
last_most i width h = <_suc (<_by (<_diff h) (ring (i ∷ width ∷ []) (search reify depth 40 fits 200000, tt)))

-- a corner's number, times a sign, along the normal times the sign
number_along : (d f g : Vec) (i sign : ℤ) → sign *ℤ (dot d g *ℤ i +ℤ dot d f) ≡ dot d (times sign (plus f (times i g)))
number_along d f g i sign =
    ring (d.x ∷ d.y ∷ d.z ∷ f.x ∷ f.y ∷ f.z ∷ g.x ∷ g.y ∷ g.z ∷ i ∷ sign ∷ []) (search reify depth 40 fits 200000, tt)

module _ (r : Raster) {eye : Vec} {n : Planes} {p : Patch} where
  pub sided_missed :
      OneSided eye n (pos r.width -ℤ pos 1) p.corners → PlanesOf (vec_of r.origin) (vec_of r.down) (vec_of r.across) n → VecWithin 10000 eye →
      Proper p → Ranged p → MissedBeside eye r p
  sided_missed o planes near proper ranged =
      record { missed = λ i h. column_missed r eye o.sign one near proper ranged planes i (beside i h) }
    where
      last : ℤ
      last = pos r.width -ℤ pos 1

      ends : (c : Vec) → Memᴰ c p.corners → Sided o.sign (number_of eye n c (pos 0)) × Sided o.sign (number_of eye n c last)
      ends c m =
          (sided o.sign (number_of eye n c (pos 0)) o.strict (o.all c m).0, sided o.sign (number_of eye n c last) o.strict (o.all c m).1)

      one : Within 1 o.sign
      one = (ends (corner p 0) (first_corner proper)).0.small

      beside : (i : ℕ) → i < r.width → (c : Vec) → Memᴰ c p.corners → pos 0 <ℤ dot (minus c eye) (normal_at n o.sign i)
      beside i h c m =
          subst (pos 0 <ℤ◌) (number_along (minus c eye) (vec_of n.first) (vec_of n.next) (pos i) o.sign)
          (between (dot (minus c eye) (vec_of n.next)) (dot (minus c eye) (vec_of n.first)) last o.sign (pos i) (le_z_yes (le→leb 0 i (omega arith)))
          (last_most (pos i) (pos r.width) (lt_z_yes (lt→ltb i r.width h))) (ends c m).0.above (ends c m).1.above)
