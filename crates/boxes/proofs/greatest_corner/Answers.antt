-- `boxes::greatest_corner` meets its contract, axis by axis.
use Rattle.boxes.proofs.BoxLaws.{greatest}
use Rattle.boxes.proofs.greatest_corner.Goals as goal

pub returns : goal.returns
returns c =
    let u = c.requires.0 in
    let v = c.requires.1 in
    record {
      x_extreme = greatest u.x_within v.x_within c.max.ensures.value c.max.ensures.self_bound c.max.ensures.other_bound;
      y_extreme = greatest u.y_within v.y_within c.max-2.ensures.value c.max-2.ensures.self_bound c.max-2.ensures.other_bound;
      z_extreme = greatest u.z_within v.z_within c.max-3.ensures.value c.max-3.ensures.self_bound c.max-3.ensures.other_bound;
    }
