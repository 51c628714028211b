-- `bill::write_bill` meets its contract: each return answers the bill's text.
use lib.ListN.{replicate, length-replicate}
use Rattle.std.proofs.Common.{ℕ, ◌∙◌, arith}
use Rattle.bill.proofs.Bills.{bill_short, bill_long, bill_refused, bill_accepted}
use Rattle.bill.proofs.write_bill.Goals as goal
use Rattle.bill.proofs.write_bill.Goals.{then-input-lt12-via-then-input-lt12, then-input-lt12-via-else-input-lt12+then-input-gt-LONGEST}

pub returns-then-input-lt12 : goal.returns-then-input-lt12
returns-then-input-lt12 c =
    c.put_refusal.ensures
    ∙ elim c.then-input-lt12.branch [
      | then-input-lt12-via-then-input-lt12 w ↦ bill_short c.args.input.now w.if-input-lt12.true
      | then-input-lt12-via-else-input-lt12+then-input-gt-LONGEST w ↦ bill_long c.args.input.now (omega (arith, w.if-input-gt-LONGEST.true))
    ]

pub returns-then-answer-ne0 : goal.returns-then-answer-ne0
returns-then-answer-ne0 c =
    c.put_refusal-then-answer-ne0.ensures
    ∙ bill_refused c.args.input.now c.if-input-lt12.false (omega (arith, c.if-input-gt-LONGEST.false)) c.survey_input-answer.ensures.value c.if-answer-ne0.true

pub returns : goal.returns
returns c =
    c.put_sheet.ensures
    ∙ bill_accepted c.args.input.now c.if-input-lt12.false (omega (arith, c.if-input-gt-LONGEST.false)) (replicate 1025 0) (length-replicate {A = ℕ} 1025 0)
    c.survey_input-answer.ensures.value c.if-answer-ne0.false c.word.ensures c.word-2.ensures c.word-3.ensures
    c.survey_input-answer.ensures.counts_after
