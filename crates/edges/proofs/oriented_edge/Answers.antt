-- `edges::oriented_edge` meets its contract: a sign is −1, 1 or 0, and each has its own edge vector.
use mathlib.Core.Path.{refl}
use Rattle.integer.proofs.Machine.{positive}
use Rattle.integer.proofs.Comparison.{comparisons}
use Rattle.model.specs.Vector.{Vec, minus}
use Rattle.geometry.specs.declared.Vector.{Vector}
use Rattle.geometry.specs.Machine.{vec_of}
use Rattle.geometry.proofs.Results.{number, vector, vector_by}
use Rattle.edges.proofs.Turns.{turned_over_lem, as_it_is, none}
use Rattle.edges.proofs.oriented_edge.Goals as goal

-- an edge's ends as the eye sees them

abbrev seen : Vector → Vector → Vec
seen eye v = minus (vec_of v) (vec_of eye)

pub returns-then-sign-lt0 : goal.returns-then-sign-lt0
returns-then-sign-lt0 c =
    vector_by c.edge_vector.ensures
    (turned_over_lem (seen c.args.eye c.args.v) (seen c.args.eye c.args.w) c.args.sign c.requires.sign_within (search comparisons))

pub returns-then-sign-gt0 : goal.returns-then-sign-gt0
returns-then-sign-gt0 c =
    vector_by c.edge_vector-then-sign-gt0.ensures
    (as_it_is (seen c.args.eye c.args.v) (seen c.args.eye c.args.w) c.args.sign c.requires.sign_within (search comparisons))

pub returns-else-sign-gt0 : goal.returns-else-sign-gt0
returns-else-sign-gt0 c =
    vector_by
    (vector (number (positive 0, tt, tt, refl)) (number (positive 0, tt, tt, refl)) (number (positive 0, tt, tt, refl)))
    (none (seen c.args.eye c.args.v) (seen c.args.eye c.args.w) c.args.sign (search comparisons) (search comparisons))
