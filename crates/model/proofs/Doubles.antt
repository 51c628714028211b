-- Doubles at the limits of the rounding, by their bits: one list under one statement.
use mathlib.Core.Path.{◌≡◌, refl}
use mathlib.Core.List.{List, [], ◌∷◌, map}
use mathlib.Core.Option.{Option, none, some}
use Prim.Native.Nat.{ℕ}
use lib.IntN.{ℤ, pos, negsuc}
use lib.Ieee.{binary64, of_bits}
use Rattle.model.specs.Station.{nearest_whole, whole_units}

-- a double's bits, and its whole number of units
pub record Case : Type 0 where
  pub pattern : ℕ
  pub due : Option ℤ

abbrev case : ℕ → Option ℤ → Case
case b u = record { pattern = b; due = u }

abbrev pub cases : List Case
cases =
    -- "So 0.0625 gives 12 and 0.1875 gives 38": halfway, with an even number below and above; and both below 0
    case 0x3fb0_0000_0000_0000 (some (pos 12))
    ∷ case 0x3fc8_0000_0000_0000 (some (pos 38))
    ∷ case 0xbfb0_0000_0000_0000 (some (negsuc 11))
    ∷ case 0xbfc8_0000_0000_0000 (some (negsuc 37))
    -- "Both zeros give 0"; the least subnormal, and the one of the largest size below 0
    ∷ case 0x0000_0000_0000_0000 (some (pos 0))
    ∷ case 0x8000_0000_0000_0000 (some (pos 0))
    ∷ case 0x0000_0000_0000_0001 (some (pos 0))
    ∷ case 0x800f_ffff_ffff_ffff (some (pos 0))
    -- the double of 0.0025 is just above half a unit, the one before it just below; those of 0.0075 and 0.0125 are just below 1.5 and just above 2.5 units. Times 200 in
    -- doubles, those of 0.0025, 0.0075 and 0.0125 would be halfway.
    ∷ case 0x3f64_7ae1_47ae_147b (some (pos 1))
    ∷ case 0x3f64_7ae1_47ae_147a (some (pos 0))
    ∷ case 0x3f7e_b851_eb85_1eb8 (some (pos 1))
    ∷ case 0x3f89_9999_9999_999a (some (pos 3))
    -- 49.9375 is halfway between 9,987 and 9,988
    ∷ case 0x4048_f800_0000_0000 (some (pos 9988))
    -- the double of 50.0025 and the next, and both below 0: question 15 lets the first of each pass
    ∷ case 0x4049_0051_eb85_1eb8 (some (pos 10000))
    ∷ case 0x4049_0051_eb85_1eb9 (some (pos 10001))
    ∷ case 0xc049_0051_eb85_1eb8 (some (negsuc 9999))
    ∷ case 0xc049_0051_eb85_1eb9 (some (negsuc 10000))
    -- both infinities, and two NaNs, quiet and not
    ∷ case 0x7ff0_0000_0000_0000 none
    ∷ case 0xfff0_0000_0000_0000 none
    ∷ case 0x7ff8_0000_0000_0000 none
    ∷ case 0x7ff0_0000_0000_0001 none
    ∷ []

pub limits_of_the_rounding : map (λ (c : Case). whole_units (of_bits binary64 c.pattern)) cases ≡ map (λ (c : Case). c.due) cases
unfolding of_bits whole_units nearest_whole
limits_of_the_rounding = refl
