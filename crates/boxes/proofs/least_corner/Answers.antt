-- `boxes::least_corner` meets its contract, axis by axis.
use Rattle.boxes.proofs.BoxLaws.{least}
use Rattle.boxes.proofs.least_corner.Goals as goal

pub returns : goal.returns
returns c =
    let u = c.requires.0 in
    let v = c.requires.1 in
    record {
      x_extreme = least u.x_within v.x_within c.min.ensures.value c.min.ensures.self_bound c.min.ensures.other_bound;
      y_extreme = least u.y_within v.y_within c.min-2.ensures.value c.min-2.ensures.self_bound c.min-2.ensures.other_bound;
      z_extreme = least u.z_within v.z_within c.min-3.ensures.value c.min-3.ensures.self_bound c.min-3.ensures.other_bound;
    }
