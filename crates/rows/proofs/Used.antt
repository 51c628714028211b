-- The part of the unlit lists that holds the used pairs of a row.
use mathlib.Core.Path.{◌≡◌}
use mathlib.Core.List.{List, []}
use Prim.Native.Nat.{ℕ, ◌+◌, ◌*◌, ◌-◌, ◌/◌, ◌≤◌, ◌<◌}
use native.Mathlib.Omega.{arith}
use lib.ListN.{length, take, drop}
use borrow.Author.Tests.{le-leb, lt-leb}
use Rattle.model.specs.Row.{used_pairs, used_part}

pub part_outside : (lists : List ℕ) (j : ℕ) → length lists / 256 ≤ j → [] ≡ used_part lists j
unfolding used_part
part_outside lists j h = rw (lt-leb (256 * (j + 1)) (length lists) (omega arith))

pub part_inside :
    (lists : List ℕ) (j : ℕ) → j < length lists / 256 →
    used_pairs (take (256 * j + 256 - 256 * j) (drop (256 * j) lists)) ≡ used_part lists j
unfolding used_part
part_inside lists j h =
    let e : 256 * j + 256 - 256 * j ≡ 256 = omega arith in
    rw (le-leb (256 * (j + 1)) (length lists) (omega arith), e)
