use Rattle.format.proofs.Made.{node_made}
use Rattle.format.proofs.records.node_at.Goals as goal

pub returns : goal.returns
returns c =
    let d = c in
    node_made _ _ d.point_at.ensures d.point_at-2.ensures d.point_at-3.ensures
    d.u16_at.ensures.value c.u16_at-2.ensures.value c.u16_at-3.ensures.value
    c.u16_at-4.ensures.value
