-- `paint_patch` meets its contract.
use mathlib.Core.Path.{sym, subst}
use native.Mathlib.Omega.{arith}
use lib.Dec.{T}
use Rattle.conversion.proofs.Steps.{sighting, patch_missed, rows_asked_lem, patch_done, entry_fits}
use Rattle.conversion.proofs.paint_patch.Goals as goal
use Rattle.conversion.proofs.paint_patch.Goals.{else-reach-via-then-reach+else-not-beside_columns, else-reach-via-else-reach}

pub patch_rows-reach-requires : goal.patch_rows-reach-requires
patch_rows-reach-requires c = sighting c.requires c.args.scene.now.checked

-- It stands before what asking the columns needs, so that an edit of what is asked is refused for what is left.
pub returns-else-reach : goal.returns-else-reach
returns-else-reach c =
    elim c.else-reach.branch [
      | else-reach-via-then-reach+else-not-beside_columns w ↦
          patch_missed c.requires (λ j b i l. (w.beside_columns.ensures.missed (subst T (sym w.if-not-beside_columns.false) tt)).missed i l j)
      | else-reach-via-else-reach w ↦
          patch_missed c.requires (λ j b i l. c.patch_rows-reach.ensures.reach.missed j b (λ x y. absurd (omega (arith, w.if-reach.false))) i)
    ]

pub beside_columns-requires : goal.beside_columns-requires
beside_columns-requires c = sighting c.requires c.args.scene.now.checked

pub convert_rows-lit-requires : goal.convert_rows-lit-requires
convert_rows-lit-requires c =
    rows_asked_lem c.requires c.patch_rows-reach.ensures.reach c.patch_rows-reach.ensures.limited c.patch_edges-kept.ensures

pub overflow_add-booked : goal.overflow_add-booked
overflow_add-booked c =
    omega (
      arith,
      entry_fits c.requires c.patch_rows-reach.ensures.reach c.patch_rows-reach.ensures.limited c.patch_edges-kept.ensures c.patch_record-panel.ensures.panel_is
          c.convert_rows-lit.ensures,
    )

pub returns-then-not-beside_columns : goal.returns-then-not-beside_columns
returns-then-not-beside_columns c =
    patch_done c.requires c.patch_rows-reach.ensures.reach c.patch_rows-reach.ensures.limited c.patch_edges-kept.ensures c.patch_record-panel.ensures.panel_is
    c.convert_rows-lit.ensures
