-- What was put, and the texts that are left, are together all of it.
use Rattle.std.proofs.Common.{◌≡◌, ◌++◌, drop}
use Rattle.text.specs.Text.{spaced}
use Rattle.numerals.specs.Listing.{each}
use Rattle.numerals.proofs.put_numbers.Given as goal

abbrev pub invariant-loop-number : goal.invariant-loop-number
invariant-loop-number g l = l.out.items ++ each spaced (drop l.number-index l.numbers) ≡ l.initial.out.items ++ each spaced l.numbers
