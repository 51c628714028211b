-- `find` asks the rows from `from` on, one after another, whether they are full.
use mathlib.Core.Path.{subst, sym}
use Rattle.std.proofs.Common.{rules, tests}
use Rattle.std.proofs.lemmas.Iterator.{first_from_Range, serves_from_Range}
use Rattle.traversal.specs.Walk.{FirstOpen}
use Rattle.traversal.proofs.Walking.{IsFull, open_found}
use Rattle.traversal.proofs.first_open.Goals as goal

pub find-requires : goal.find-requires
find-requires c = record { can = tt; finite = tt; callable = serves_from_Range (λ x q k. search (rules, tests)) (λ x low high. search rules) }

pub returns : goal.returns
returns c =
    let rows = c.args.rows.now in
    let found =
    first_from_Range _ _ _ c.find.result (λ j. IsFull rows j → ⊥) (IsFull rows) c.find.ensures.ran
    (λ x q k. search (rules, tests)) (λ x q k. search (rules, tests)) in
    subst (FirstOpen rows c.args.from c.args.height) (sym c.unwrap_or.ensures) (open_found rows c.requires.0 c.find.result found)
