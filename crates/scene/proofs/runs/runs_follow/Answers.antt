use Rattle.scene.proofs.Following.{breaks, one_follows, all_follow}
use Rattle.scene.proofs.runs.runs_follow.Goals as goal

pub returns-then-u16_at-start : goal.returns-then-u16_at-start
returns-then-u16_at-start c =
    breaks _ _ _ c.loop-k.invariant c.loop-k-test.true c.u16_at.ensures.value c.if-u16_at-start.true

pub loop-k-preserved : goal.loop-k-preserved
loop-k-preserved c =
    one_follows _ _ _ c.loop-k.invariant c.loop-k-test.true c.u16_at.ensures.value c.if-u16_at-start.false
    c.u16_at-start.ensures.value c.u16_at-start.ensures.below

pub returns : goal.returns
returns c = all_follow _ _ _ c.loop-k.invariant c.loop-k-test.false
