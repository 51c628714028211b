-- A double by its bits, and what they tell of its whole number.
use mathlib.Core.Path.{◌≡◌, refl, sym, ap, ◌∙◌, subst}
use mathlib.Core.Logic.{◌⊎◌, inl, inr}
use mathlib.Core.Bool.{Bool, true, false, cond}
use mathlib.Core.Option.{Option, none, some}
use Rattle.std.specs.Prelude.{None, Some}
use Prim.Native.Nat.{ℕ, zero, suc, ◌/◌, ◌%◌, ◌^◌, ◌≤◌, ◌<◌}
use native.Mathlib.Omega.{arith}
use lib.Dec.{T, leb, ltb, eqb, lit<}
use lib.IntN.{ℤ, pos, neg_ℤ, nat_abs, ◌-ℤ◌, +ℤ_idl}
use lib.Pow.{mod-mod-pow}
use lib.Ieee.{Float, nan, inf, fin, binary64, of_fields, of_bits, to_bits, fits, is_nan}
use lib.Ieee.Bits.{of_bits-to_bits}
use mir.Syntax.{w64}
use mir.Val.{SFits, to_z, of_z}
use mir.Facts.{to_z_pos, to_z-of_z}
use borrow.Author.Tests.{le-leb, lt-leb, ltb-true, ltb-false}
use Rattle.model.specs.Station.{signed, whole_units, or_zero}
use Rattle.model.specs.Questions.{whole_in_range}
use Rattle.station.specs.Bits.{size_units, SizeIs}
use Rattle.station.specs.Machine.{WholeIs}
use Rattle.station.proofs.Fields.{units_by_fields}

-- a double without a whole number in range
pub refused : {n : Option ℤ} → false ≡ whole_in_range n → WholeIs n None
refused e = record { ranged = e; number_is = tt }

pub nan_out : (x : Float) → is_nan x ≡ true → false ≡ whole_in_range (whole_units x)
unfolding whole_units is_nan
nan_out nan e = refl
nan_out (inf s) e = absurd (subst T (sym e) tt)
nan_out (fin s m k) e = absurd (subst T (sym e) tt)

size_signed : (s : Bool) (n : ℕ) → nat_abs (signed s n) ≡ n
size_signed true zero = refl
size_signed true (suc n) = refl
size_signed false n = refl

large_out : (s : Bool) (n : ℕ) → 10000 < n → false ≡ whole_in_range (some (signed s n))
large_out s n h = sym (ap (λ (k : ℕ). leb k 10000) (size_signed s n) ∙ lt-leb n 10000 h)

small_in : (s : Bool) (n : ℕ) → n ≤ 10000 → true ≡ whole_in_range (some (signed s n))
small_in s n h = sym (ap (λ (k : ℕ). leb k 10000) (size_signed s n) ∙ le-leb n 10000 h)

not_finite : (s : Bool) (t : ℕ) → none ≡ whole_units (of_fields binary64 s 2047 t)
unfolding of_fields whole_units
not_finite s t = go (eqb t 0)
  where
    go : (b : Bool) → none ≡ whole_units (cond b (inf s) nan)
    go true = refl
    go false = refl

module _ (x : Float) (held : T (fits binary64 x)) where
  abbrev bits : ℕ
  bits = to_bits binary64 x

  abbrev sign : Bool
  sign = leb (2 ^ 63) bits

  abbrev field : ℕ
  field = bits % 2 ^ 63 / 2 ^ 52

  abbrev low : ℕ
  low = bits % 2 ^ 63 % 2 ^ 52

  by_bits : x ≡ of_fields binary64 sign field low
  unfolding of_bits
  by_bits = sym (of_bits-to_bits binary64 x held) ∙ ap (of_fields binary64 sign field) (sym (mod-mod-pow bits 11 52))

  finite_units : field < 2047 → whole_units x ≡ some (signed sign (size_units field low))
  finite_units h = ap whole_units by_bits ∙ units_by_fields sign field low h

  field_range : (field < 2047) ⊎ (field ≡ 2047)
  field_range = go (ltb field 2047) refl
    where
      go : (b : Bool) → ltb field 2047 ≡ b → (field < 2047) ⊎ (field ≡ 2047)
      go true e = inl (omega (arith, ltb-true field 2047 e))
      go false e = inr (omega (arith, ltb-false field 2047 e))

  module _ {r : ℕ} (size : SizeIs (bits % 2 ^ 63) r) where
    pub beyond_out : 10000 < r → false ≡ whole_in_range (whole_units x)
    beyond_out h = go field_range
      where
        go : (field < 2047) ⊎ (field ≡ 2047) → false ≡ whole_in_range (whole_units x)
        go (inl f) = rw (finite_units f) (large_out sign (size_units field low) (size.beyond h f))
        go (inr f) =
            ap whole_in_range
            (not_finite sign low ∙ ap (λ (e : ℕ). whole_units (of_fields binary64 sign e low)) (sym f) ∙ ap whole_units (sym by_bits))

    -- a size in range, with the sign that the bits have
    pub within_is :
        (s : Bool) {n : ℤ} → sign ≡ s → r ≤ 10000 → n ≡ signed s r → WholeIs (whole_units x) (Some n)
    within_is s {n} e h m =
        let u : whole_units x ≡ some (signed s r) = finite_units (size.finite h) ∙ rw (← size.exact h, e) in
        record { ranged = small_in s r h ∙ ap whole_in_range (sym u); number_is = m ∙ ap or_zero (sym u) }

-- ---- the size in a word, and its opposite
module _ (n : ℕ) (h : n ≤ 10000) where
  pub word_is : to_z w64 n ≡ pos n
  word_is = to_z_pos w64 (omega arith)

  opposite : (k : ℕ) → pos 0 -ℤ pos k ≡ neg_ℤ (pos k)
  opposite k = +ℤ_idl (neg_ℤ (pos k))

  opposite_fits : (k : ℕ) → k ≤ 10000 → SFits w64 (neg_ℤ (pos k))
  opposite_fits zero l = record { sfits = lit< tt }
  opposite_fits (suc k) l = record { sfits = omega arith }

  word_opposite_fits : SFits w64 (pos 0 -ℤ to_z w64 n)
  word_opposite_fits = subst (SFits w64) (sym (ap (λ (z : ℤ). pos 0 -ℤ z) word_is ∙ opposite n)) (opposite_fits n h)

  pub word_opposite : to_z w64 (of_z w64 (pos 0 -ℤ to_z w64 n)) ≡ neg_ℤ (pos n)
  word_opposite = to_z-of_z word_opposite_fits ∙ ap (λ (z : ℤ). pos 0 -ℤ z) word_is ∙ opposite n
