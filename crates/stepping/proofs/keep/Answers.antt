-- `keep` meets its contract: each of its four arms leaves what the span leaves.
use Rattle.stepping.proofs.Keeping.{keeps_both, keeps_before, keeps_after, keeps_none}
use Rattle.stepping.proofs.keep.Goals as goal

pub returns-in-true-true : goal.returns-in-true-true
returns-in-true-true c =
    keeps_both c.requires c.pair_at-p.ensures c.in-true-true.is-0 c.in-true-true.is-1 c.columns.ensures c.set_pair.ensures
    c.columns-in-true-true.ensures c.insert.ensures

pub returns-in-true-false : goal.returns-in-true-false
returns-in-true-false c =
    keeps_before c.requires c.pair_at-p.ensures c.in-true-false.is-0 c.in-true-false.is-1 c.columns-in-true-false.ensures
    c.set_pair-in-true-false.ensures

pub returns-in-false-true : goal.returns-in-false-true
returns-in-false-true c =
    keeps_after c.requires c.pair_at-p.ensures c.in-false-true.is-0 c.in-false-true.is-1 c.columns-in-false-true.ensures
    c.set_pair-in-false-true.ensures

pub returns-in-false-false : goal.returns-in-false-false
returns-in-false-false c =
    keeps_none c.requires c.pair_at-p.ensures c.in-false-false.is-0 c.in-false-false.is-1 c.remove.ensures
