-- What was put, and the texts that are left, are together all of it.
use Rattle.std.proofs.Common.{◌≡◌, ◌++◌, drop}
use Rattle.numerals.specs.Listing.{each}
use Rattle.numerals.proofs.put_each.Given as goal

abbrev pub invariant-loop-item : goal.invariant-loop-item
invariant-loop-item g l = l.out.items ++ each g.T.Spaced.spaced (drop l.item-index l.items) ≡ l.initial.out.items ++ each g.T.Spaced.spaced l.items
