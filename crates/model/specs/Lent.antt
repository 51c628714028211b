-- What is lent to the survey call, and how long it is.
use Rattle.std.specs.Prelude.{List, ℕ, length}

-- what the lent buffers and the station counter hold
pub record Lent : Type 0 where
  pub picture : List ℕ
  pub counts : List ℕ
  pub patch_counts : List ℕ
  pub unlit : List ℕ
  pub lit : List ℕ
  pub counter : ℕ

-- the lengths of the lent buffers
pub record Lengths : Type 0 where
  pub picture : ℕ
  pub counts : ℕ
  pub patch_counts : ℕ
  pub unlit : ℕ
  pub lit : ℕ

-- those of what is lent
abbrev pub lengths_of : Lent → Lengths
lengths_of l =
    record {
      picture = length l.picture;
      counts = length l.counts;
      patch_counts = length l.patch_counts;
      unlit = length l.unlit;
      lit = length l.lit;
    }
