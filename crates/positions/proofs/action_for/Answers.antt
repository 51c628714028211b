-- `action_for` meets its contract: of a segment before the span or after it one comparison settles all four parts; any other has columns to paint, and the three other parts are each one comparison.
use mathlib.Core.Path.{refl}
use native.Mathlib.Omega.{arith}
use borrow.Author.Tests.{lt-ltb, le-ltb, le-leb, lt-leb}
use Rattle.positions.proofs.action_for.Goals as goal

pub returns-then-max-first : goal.returns-then-max-first
returns-then-max-first c =
    let h = c.if-max-first.true in
    record {
      paint_is = rw (lt-leb c.args.first c.args.max h);
      before_is = rw (lt-ltb c.args.min c.args.first (omega (arith, c.requires)));
      after_is = rw (le-ltb c.args.last c.args.max (omega (arith, c.requires)));
      next_is = rw (lt-ltb c.args.max c.args.last (omega (arith, c.requires)));
    }

pub returns-then-last-min : goal.returns-then-last-min
returns-then-last-min c =
    let h = c.if-last-min.true in
    record {
      paint_is = rw (le-leb c.args.first c.args.max c.if-max-first.false, lt-leb c.args.min c.args.last h);
      before_is = rw (le-ltb c.args.min c.args.first (omega (arith, c.requires)));
      after_is = rw (lt-ltb c.args.last c.args.max (omega (arith, c.requires)));
      next_is = rw (le-ltb c.args.max c.args.last (omega (arith, c.requires)));
    }

pub returns : goal.returns
returns c =
    record {
      paint_is = rw (le-leb c.args.first c.args.max c.if-max-first.false, le-leb c.args.min c.args.last c.if-last-min.false);
      before_is = refl;
      after_is = refl;
      next_is = refl;
    }
