-- Question 8 of one patch, and of one of its edges.
use Rattle.std.specs.Prelude.{Bool, ◌&&◌, ℕ}
use Rattle.model.specs.Lists.{every}
use Rattle.model.specs.Patch.{Patch, Edge, normal, round, first_edge, flat, turns_towards, strictly_convex}

-- the edge from corner k has every other corner on its inner side
abbrev pub turns_at_edge : Patch → ℕ → Bool
turns_at_edge p k =
    let e : Edge = first_edge (round p.corners k) in
    every (turns_towards (normal p) e) e.others

-- "Is each patch flat and strictly convex?", of one patch
abbrev pub patch_proper : Patch → Bool
patch_proper p = flat p && strictly_convex p
