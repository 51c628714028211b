use mathlib.Core.Path.{ap, ◌∙◌}
use native.Mathlib.Omega.{arith}
use Rattle.polygons.specs.Tests.{patch_proper}
use Rattle.convexity.proofs.PatchTables.{patch_bounded}
use Rattle.convexity.proofs.TableCorners.{run_inside, run_numbered}
use Rattle.convexity.proofs.numbered_proper.Goals as goal

pub few_from-requires : goal.few_from-requires
few_from-requires c =
    let s = c.requires in
    (s.0, run_inside s.0.laid s.0.inside s.1 c.patch_record.ensures c.if-run-eq4.true, omega arith, omega arith)

pub returns-then-run-eq4 : goal.returns-then-run-eq4
returns-then-run-eq4 c =
    let s = c.requires in
    c.few_from.ensures ∙ run_numbered s.0.laid s.0.inside s.1 c.patch_record.ensures c.if-run-eq4.true

pub few_from-requires-then-run-eq3 : goal.few_from-requires-then-run-eq3
few_from-requires-then-run-eq3 c =
    let s = c.requires in
    (s.0, run_inside s.0.laid s.0.inside s.1 c.patch_record.ensures c.if-run-eq3.true, omega arith, omega arith)

pub returns-then-run-eq3 : goal.returns-then-run-eq3
returns-then-run-eq3 c =
    let s = c.requires in
    c.few_from-then-run-eq3.ensures ∙ run_numbered s.0.laid s.0.inside s.1 c.patch_record.ensures c.if-run-eq3.true

pub patch_proper-requires : goal.patch_proper-requires
patch_proper-requires c =
    let s = c.requires in
    patch_bounded s.0 s.1 c.read_patch.ensures

pub returns : goal.returns
returns c = c.patch_proper.ensures ∙ ap patch_proper c.read_patch.ensures.value
