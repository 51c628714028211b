-- A double's size in units by the fields of its bits, for the contracts of the code: no words of a document.
use Rattle.std.specs.Prelude.{◌≡◌, ℕ, zero, suc, ◌+◌, ◌-◌, ◌*◌, ◌/◌, ◌%◌, ◌^◌, ◌≤◌, ◌<◌}
use Rattle.model.specs.Station.{nearest_whole}

-- the digits with the leading one, which an exponent's field of 0 has not
abbrev pub digits : ℕ → ℕ → ℕ
digits zero low = low
digits (suc field) low = 2 ^ 52 + low

-- the size in units of the finite double with these fields
abbrev pub size_units : ℕ → ℕ → ℕ
size_units field low = nearest_whole (200 * (digits field low * 2 ^ (field - 1))) (2 ^ 1074)

-- r is the size where r is at most 10,000; any other r says that the size is larger, or that the field is that of no finite double
pub record SizeIs (bits r : ℕ) : Type 0 where
  pub finite : r ≤ 10000 → bits / 2 ^ 52 < 2047
  pub exact : r ≤ 10000 → r ≡ size_units (bits / 2 ^ 52) (bits % 2 ^ 52)
  pub beyond : 10000 < r → bits / 2 ^ 52 < 2047 → 10000 < size_units (bits / 2 ^ 52) (bits % 2 ^ 52)
