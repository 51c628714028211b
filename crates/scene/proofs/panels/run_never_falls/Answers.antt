use mathlib.Core.Path.{ap, ◌∙◌}
use native.Mathlib.Omega.{arith}
use Rattle.model.specs.Format.{PatchRecord}
use Rattle.scene.proofs.NeverFalling.{none_rise, falls, one_rises, all_rise, run_panels}
use Rattle.scene.proofs.panels.run_never_falls.Goals as goal

pub loop-k-init : goal.loop-k-init
loop-k-init c = none_rise _ _ _ (omega arith)

pub returns-then-panel-low : goal.returns-then-panel-low
returns-then-panel-low c =
    falls _ _ _ c.loop-k.invariant c.loop-k-test.true
    (ap (λ (p : PatchRecord). p.panel) c.patch_record-panel.ensures) c.if-panel-low.true
    ∙ run_panels c.args.scene.now.laid_out _ _ c.requires

pub loop-k-preserved : goal.loop-k-preserved
loop-k-preserved c =
    one_rises _ _ _ c.loop-k.invariant c.loop-k-test.true
    (ap (λ (p : PatchRecord). p.panel) c.patch_record-panel.ensures) c.if-panel-low.false

pub returns : goal.returns
returns c =
    all_rise _ _ _ c.loop-k.invariant c.loop-k-test.false ∙ run_panels c.args.scene.now.laid_out _ _ c.requires
