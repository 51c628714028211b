use mathlib.Core.Path.{refl}
use mir.Syntax.{w64}
use Rattle.integer.proofs.Machine.{machine, result, room}
use Rattle.geometry.proofs.Results.{number}
use Rattle.projection.proofs.turn_part.Statement.{statement}
use Rattle.projection.proofs.turn_part.Tie as tie

pub turn_part_spec : {M : Type 1} → statement M
turn_part_spec =
    tie.close
    (tie.spec
    (λ c κs. room w64 (search machine depth 40 fits 20000, tt))
    (λ c κs. room w64 (search machine depth 40 fits 20000, tt))
    (λ c κs. room w64 (search machine depth 40 fits 20000, tt))
    (λ c κs. room w64 (search machine depth 40 fits 20000, tt))
    (λ c κs. room w64 (search (machine, result) depth 40 fits 20000, tt))
    (λ c. number (search (machine, result) depth 40 fits 20000, tt, tt, refl)))
