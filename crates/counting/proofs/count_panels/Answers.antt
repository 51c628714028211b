-- `count_panels` meets its contract: the first k patches have added their cells.
use native.Mathlib.Omega.{arith}
use Prim.Native.Nat.{◌<◌}
use Rattle.model.specs.Picture.{count_entries}
use Rattle.counting.proofs.Adding.{added_starts, own_left, count_within, added_goes}
use Rattle.counting.proofs.count_panels.Goals as goal

pub loop-k-init : goal.loop-k-init
loop-k-init c = added_starts c.args.totals.now c.requires.entries c.clear_table.ensures

pub overflow_add-totals : goal.overflow_add-totals
overflow_add-totals c =
    let has_entry : c.patch_record-panel.result.panel < count_entries = rw c.patch_record-panel.ensures.panel_is (c.requires.numbered c.loop-k.k (omega (arith, c.loop-k-test.true, c.requires.patches))) in
    omega (arith, count_within c.loop-k.invariant c.loop-k-test.true c.requires.within _ has_entry, c.requires.few)

pub overflow_sub-rest : goal.overflow_sub-rest
overflow_sub-rest c = own_left c.loop-k.invariant c.loop-k-test.true c.requires.within

pub loop-k-preserved : goal.loop-k-preserved
loop-k-preserved c =
    added_goes c.loop-k.invariant c.loop-k-test.true c.requires.within c.patch_record-panel.ensures.panel_is
    (rw c.patch_record-panel.ensures.panel_is (c.requires.numbered c.loop-k.k (omega (arith, c.loop-k-test.true, c.requires.patches))))
