-- `room::patches_told` meets its contract: an accepted scene has a header, which tells its patches.
use borrow.Author.Rules.{rules}
use Prim.Native.Nat.{zero-le}
use Rattle.room.proofs.Told.{none_told, all_told}
use Rattle.room.proofs.patches_told.Goals as goal

pub returns-then-scene-lt-HEADER_SIZE : goal.returns-then-scene-lt-HEADER_SIZE
returns-then-scene-lt-HEADER_SIZE c = record { value = λ e. none_told _ e c.if-scene-lt-HEADER_SIZE.true; upper_bound = zero-le }

pub returns : goal.returns
returns c = record { value = λ e. all_told _ e c.read_header.ensures c.min.ensures; upper_bound = search rules }
