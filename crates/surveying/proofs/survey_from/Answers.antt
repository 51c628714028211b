-- `surveying::survey_from` meets its contract: it refuses before it writes, or paints, counts and raises the counter.
use Rattle.call.specs.Lent.{held_by}
use Rattle.surveying.proofs.Calls.{answered_on, refused, paintable, rendered_from, counter_asked, accepted}
use Rattle.surveying.proofs.survey_from.Goals as goal

pub returns-in_err-call-clause-surveyed : goal.returns-in_err-call-clause-surveyed
returns-in_err-call-clause-surveyed c =
    let lent = held_by c.args.lent.now in
    refused _ _ _ lent _ _ c.from_residual.ensures.1 (answered_on _ _ _ lent c.lengths.ensures c.in_err-call.ensures.answered)

-- It stands before the answers on the way, so that an edit of what the call leaves
-- is refused for what it leaves.
pub returns-clause-surveyed : goal.returns-clause-surveyed
returns-clause-surveyed c =
    let lent = held_by c.args.lent.now in
    let call = c.in_ok-call.ensures in
    let answered = answered_on _ _ _ lent c.lengths.ensures call.answered in
    accepted _ _ _ lent answered
    (rendered_from _ _ _ lent answered call.eye call.same c.paint.ensures.rendered)
    c.next_counter-lent.ensures

pub paint-requires : goal.paint-requires
paint-requires c =
    let lent = held_by c.args.lent.now in
    let call = c.in_ok-call.ensures in
    paintable _ _ _ lent (answered_on _ _ _ lent c.lengths.ensures call.answered) call.eye call.same

pub next_counter-lent-requires : goal.next_counter-lent-requires
next_counter-lent-requires c =
    let lent = held_by c.args.lent.now in
    counter_asked _ _ _ lent (answered_on _ _ _ lent c.lengths.ensures c.in_ok-call.ensures.answered)
