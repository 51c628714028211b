-- What the questions that said yes tell those after them, and all who read the scene.
use mathlib.Core.Path.{◌≡◌}
use mathlib.Core.Bool.{true}
use mathlib.Core.List.{List}
use Prim.Native.Nat.{ℕ}
use Rattle.model.specs.Format.{decode}
use Rattle.model.specs.Questions.{coordinates_in_range, children_proper, runs_proper}
use Rattle.model.specs.Accepted.{AcceptedScene}
use Rattle.model.proofs.Tests.{is_true, true_of}
use Rattle.format.specs.declared.layout.Layout.{Layout}
use Rattle.format.specs.Layout.{LaidOut}
use Rattle.scene.proofs.RunTables.{runs_inside}
use Rattle.convexity.specs.Cornered.{Cornered}
use Rattle.checked.specs.Checked.{Checked}

module _ {bytes : List ℕ} {l : Layout} (laid : LaidOut bytes l) where
  pub cornered : coordinates_in_range (decode bytes) ≡ true → runs_proper (decode bytes) ≡ true → Cornered bytes l
  cornered t runs = record { laid = laid; inside = runs_inside laid runs; coordinates = is_true t }

  pub checked :
      coordinates_in_range (decode bytes) ≡ true → children_proper (decode bytes) ≡ true → runs_proper (decode bytes) ≡ true →
      Checked bytes l
  checked t children runs =
      record {
        laid = laid;
        inside = runs_inside laid runs;
        coordinates = is_true t;
        children = is_true children;
        runs = is_true runs;
      }

-- an accepted scene, with its layout, is one that can be walked and painted
pub walkable : {bytes : List ℕ} {l : Layout} → AcceptedScene bytes → LaidOut bytes l → Checked bytes l
walkable h laid = checked laid (true_of h.coordinates) (true_of h.children) (true_of h.runs)
