-- `size_of` meets its contract: by the exponent's field the size is above 10,000, or 0, or the digits shifted and rounded.
use mathlib.Core.Path.{◌∙◌, subst}
use Prim.Native.Nat.{ℕ, ◌<◌}
use native.Mathlib.Omega.{arith}
use native.Mathlib.Nat.{mod-lt}
use lib.Dec.{lit<}
use Rattle.station.proofs.Fields.{from_64, tiny, shifted}
use Rattle.station.proofs.size_of.Goals as goal

pub returns-then-exponent-ge1029 : goal.returns-then-exponent-ge1029
returns-then-exponent-ge1029 c =
    record {
      finite = λ h. absurd (omega arith);
      exact = λ h. absurd (omega arith);
      beyond = λ h k. from_64 _ _ c.if-exponent-ge1029.true;
    }

pub returns-then-exponent-lt1014 : goal.returns-then-exponent-lt1014
returns-then-exponent-lt1014 c =
    record {
      finite = λ h. omega arith;
      exact = λ h. tiny _ _ (mod-lt _ (lit< tt)) c.if-exponent-lt1014.true;
      beyond = λ h k. absurd (omega arith);
    }

pub returns : goal.returns
returns c =
    let e = shifted _ _ c.if-exponent-lt1014.false c.if-exponent-ge1029.false in
    record {
      finite = λ h. omega (arith, c.if-exponent-ge1029.false);
      exact = λ h. c.rounded.ensures ∙ e;
      beyond = λ h k. subst (λ (n : ℕ). 10000 < n) (c.rounded.ensures ∙ e) h;
    }
