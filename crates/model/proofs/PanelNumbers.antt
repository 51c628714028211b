-- Question 7: the panel numbers of a scene's patches.
use mathlib.Core.List.{Memᴰ}
use Prim.Native.Nat.{◌≤◌}
use lib.Dec.{T, leb, leb→le}
use Rattle.model.specs.Patch.{Patch}
use Rattle.model.specs.Format.{Scene, PatchRecord, patch_table, patch_of, highest_panel}
use Rattle.model.specs.Questions.{within, panels_in_range, panels_never_fall, panels_proper}
use Rattle.model.proofs.Tests.{both, every_true}
use Rattle.model.proofs.Ranges.{of_map}

module _ (s : Scene) (proper : T (panels_proper s)) where
  in_range : (p : Patch) → Memᴰ p (patch_table s) → T (within 1 highest_panel p.panel)
  unfolding panels_proper panels_in_range patch_table patch_of
  in_range =
      of_map (λ (p : Patch). T (within 1 highest_panel p.panel)) (patch_of s.corners) s.patches
      ((every_true (λ (r : PatchRecord). within 1 highest_panel r.panel) s.patches).0
      ((both (panels_in_range s) (panels_never_fall s)).0 proper).0)

  pub panel_positive : (p : Patch) → Memᴰ p (patch_table s) → 1 ≤ p.panel
  panel_positive p m = leb→le 1 p.panel ((both (leb 1 p.panel) (leb p.panel highest_panel)).0 (in_range p m)).0

  pub panel_bounded : (p : Patch) → Memᴰ p (patch_table s) → p.panel ≤ highest_panel
  panel_bounded p m =
      leb→le p.panel highest_panel ((both (leb 1 p.panel) (leb p.panel highest_panel)).0 (in_range p m)).1
