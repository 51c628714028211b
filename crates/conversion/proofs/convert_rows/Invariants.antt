-- `convert_rows` meets its contract: the rows before row j are painted.
use mathlib.Core.Bool.{Bool}
use Prim.Native.Nat.{ℕ, ◌*◌, ◌≤◌}
use lib.ListN.{length}
use Rattle.conversion.specs.Canvas.{UnlitSets}
use Rattle.conversion.proofs.Painting.{Over, up_to}
use Rattle.conversion.proofs.convert_rows.Given as goal

abbrev pub invariant-loop-j : goal.invariant-loop-j
invariant-loop-j l =
    (height : ℕ) (unlit : ℕ → ℕ → Bool) → l.fn.reach.end ≤ height → height * l.width ≤ length l.initial.picture → UnlitSets l.width height unlit l.initial.rows →
    Over l.functions l.panel l.width height unlit l.initial.picture (up_to l.fn.reach.first l.j) l.rows l.picture l.lit
