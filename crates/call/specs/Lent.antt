-- What is lent, and its lengths, as the model's.
use Rattle.std.specs.Prelude.{◌≡◌}
use Rattle.model.specs.Lent as model
use Rattle.call.specs.declared.lent.Lengths.{Lengths}
use Rattle.call.specs.declared.lent.Lent.{Lent}

abbrev pub lengths_of : Lengths → model.Lengths
lengths_of l =
    record { picture = l.picture; counts = l.counts; patch_counts = l.patch_counts; unlit = l.unlit; lit = l.lit }

-- what the lent buffers and the counter hold
abbrev pub held_by : Lent → model.Lent
held_by l =
    record {
      picture = l.picture.now;
      counts = l.counts.now;
      patch_counts = l.patch_counts.now;
      unlit = l.unlit.now;
      lit = l.lit.now;
      counter = l.counter.now;
    }

-- the same buffers and the same counter, whatever they hold
pub record SameLent (before after : Lent) : Type 0 where
  pub picture : after.picture.ghost_name ≡ before.picture.ghost_name
  pub counts : after.counts.ghost_name ≡ before.counts.ghost_name
  pub patch_counts : after.patch_counts.ghost_name ≡ before.patch_counts.ghost_name
  pub unlit : after.unlit.ghost_name ≡ before.unlit.ghost_name
  pub lit : after.lit.ghost_name ≡ before.lit.ghost_name
  pub counter : after.counter.ghost_name ≡ before.counter.ghost_name
