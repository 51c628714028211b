-- The parts of the questions that one function answers.
use Rattle.std.specs.Prelude.{Bool, List, map, ℕ, ◌+◌, length}
use Rattle.model.specs.Lists.{every}
use Rattle.model.specs.Patch.{corners_counted}
use Rattle.model.specs.Format.{Run, PatchRecord, Scene, u16_at, patch_table, highest_panel, inRun}
use Rattle.model.specs.Questions.{runs_follow, within, never_falling}

-- question 6
abbrev pub run_at : List ℕ → ℕ → Run
run_at bytes at = record { first = u16_at bytes at; count = u16_at bytes (at + 2) }

abbrev pub corners_follow : Scene → Bool
corners_follow s = runs_follow 0 (length s.corners) (map (λ (p : PatchRecord). p.corner_run) s.patches)

abbrev pub all_counted : Scene → Bool
all_counted s = every corners_counted (patch_table s)

-- question 7
abbrev pub panel_in_range : PatchRecord → Bool
panel_in_range p = within 1 highest_panel p.panel

abbrev pub run_never_falls : List PatchRecord → Run → Bool
run_never_falls patches r = never_falling (map (λ (p : PatchRecord). p.panel) (inRun r patches))
