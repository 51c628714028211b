-- Patch records, whose size the layout says: where they stand is a product of two numbers, so that these two laws say all that is asked of it.
use mathlib.Core.List.{List}
use Prim.Native.Nat.{ℕ, ◌+◌, ◌*◌, ◌≤◌, ◌<◌}
use native.Mathlib.Omega.{arith}
use Rattle.format.specs.Layout.{LaidOut}
use Rattle.format.specs.declared.layout.Layout.{Layout}

module _ {bytes : List ℕ} {l : Layout} (laid : LaidOut bytes l) where
  -- a record lies inside its table
  pub record_fits : {k : ℕ} → k < l.patches → l.patch_size * k + 6 ≤ l.patch_size * l.patches
  record_fits h = rw laid.sized (omega arith)

  -- the table is short
  pub records_few : l.patch_size * l.patches ≤ 8192
  records_few = rw laid.sized (omega (arith, laid.few_patches))
