-- Chosen panels taken away (demand 3).
use Rattle.std.specs.Prelude.{◌≡◌, Bool, true, false, cond, ◌&&◌, List, [], ◌∷◌, ℕ, eqb, ◌-ℤ◌}
use Rattle.model.specs.Lists.{tally}
use Rattle.model.specs.Vector.{Vec, is_zero}
use Rattle.model.specs.Patch.{Patch}
use Rattle.model.specs.Format.{highest_panel}
use Rattle.model.specs.Questions.{within}

abbrev pub same_point : Vec → Vec → Bool
same_point v w = is_zero (v.x -ℤ w.x) && is_zero (v.y -ℤ w.y) && is_zero (v.z -ℤ w.z)

unfoldable pub same_points : List Vec → List Vec → Bool
same_points [] [] = true
same_points [] (w ∷ ws) = false
same_points (v ∷ vs) [] = false
same_points (v ∷ vs) (w ∷ ws) = same_point v w && same_points vs ws

-- "Two patches are the same when panel and corners in order agree"
unfoldable pub same_patch : Patch → Patch → Bool
same_patch p q = eqb p.panel q.panel && same_points p.corners q.corners

-- "demand 3 counts a repeated patch as often as it stands"
unfoldable pub times_listed : Patch → List Patch → ℕ
times_listed p ps = tally (same_patch p) ps

-- "Chosen panels are any numbers from 1 to 1,024, on patches or not"
abbrev pub is_chosen : (ℕ → Bool) → ℕ → Bool
is_chosen chosen n = within 1 highest_panel n && chosen n

-- "the panels kept are all others": the patches of the panels kept
unfoldable pub kept : (ℕ → Bool) → List Patch → List Patch
kept chosen [] = []
kept chosen (p ∷ ps) = cond (is_chosen chosen p.panel) (kept chosen ps) (p ∷ kept chosen ps)

-- demand 3: "the second scene has just the first's patches less all those of the chosen panels"
abbrev pub TakenAway : (ℕ → Bool) → List Patch → List Patch → Type 0
TakenAway chosen first second = (p : Patch) → times_listed p second ≡ times_listed p (kept chosen first)
