-- `lay` meets its contract: an empty span changes nothing, any other is swept over the row.
use mathlib.Core.Path.{sym}
use lib.ListN.{length}
use Rattle.rows.proofs.Same.{same_after, words_now, words_stay}
use Rattle.rows.proofs.Full.{lays_nothing, lights_nothing, looks_laid, looks_at_nothing, reports}
use Rattle.rows.proofs.RowUnderWork.lay.Goals as goal

pub sweep-swept-requires : goal.sweep-swept-requires
sweep-swept-requires c = (c.if-first-last.true, c.requires.listed)

pub light_new-requires : goal.light_new-requires
light_new-requires c =
    let p = c.requires in
    (p.listed.fits, record { unlit = p.listed.unlit; words_are = p.words_are })

pub returns-then-first-last : goal.returns-then-first-last
returns-then-first-last c =
    let e = c.sweep-swept.ensures in
    record {
      laid = e.laid;
      reported =
          λ unlit r.
          reports c.requires.listed.fits (e.laid unlit r) (e.counted unlit r)
          (looks_laid (length c.args.cells.now) unlit c.if-first-last.true (e.looked unlit r));
      mapped = λ unlit r. c.light_new.ensures unlit (e.counted unlit r) (words_now c.requires unlit r);
      same =
          same_after c.requires e.laid
          (λ unlit r. c.light_new.ensures unlit (e.counted unlit r) (words_now c.requires unlit r));
    }

pub returns-else-first-last : goal.returns-else-first-last
returns-else-first-last c =
    let w = length c.args.cells.now in
    let l = lays_nothing c.args.first c.args.last c.if-first-last.false c.args.panel in
    let n = lights_nothing c.args.first c.args.last c.if-first-last.false w in
    let k = looks_at_nothing c.args.first c.args.last c.if-first-last.false w in
    record {
      laid = l;
      reported = λ unlit r. reports c.requires.listed.fits (l unlit r) (n unlit) (k unlit);
      mapped = λ unlit r. words_stay w c.args.first c.args.last unlit (sym (n unlit)) (words_now c.requires unlit r);
      same =
          same_after c.requires l
          (λ unlit r. words_stay w c.args.first c.args.last unlit (sym (n unlit)) (words_now c.requires unlit r));
    }
