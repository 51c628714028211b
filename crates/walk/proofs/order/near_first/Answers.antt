-- `walk::order::near_first` meets its contract.
use Rattle.integer.proofs.Comparison.{comparisons}
use Rattle.geometry.proofs.Results.{side_of_plane}
use Rattle.walk.proofs.NearSide.{from_behind, from_before}
use Rattle.walk.proofs.order.near_first.Goals as goal

pub returns-then-side-lt0 : goal.returns-then-side-lt0
returns-then-side-lt0 c =
    let a = c.args in
    from_behind _ _ _ _
    (side_of_plane a.n.a a.n.b a.n.c a.eye c.plane_normal-normal.ensures c.side.ensures).value
    (search comparisons)

pub returns-else-side-lt0 : goal.returns-else-side-lt0
returns-else-side-lt0 c =
    let a = c.args in
    from_before _ _ _ _
    (side_of_plane a.n.a a.n.b a.n.c a.eye c.plane_normal-normal.ensures c.side.ensures).value
    (search comparisons)
