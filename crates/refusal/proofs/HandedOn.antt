-- A refusal that a `?` hands on, and that none is answered as done.
use mathlib.Core.Path.{◌≡◌, ap}
use native.Mathlib.Omega.{arith}
use Rattle.std.specs.Prelude.{Result, Ok, Err, IsErrAnd}
use Rattle.refusal.specs.declared.Refusal.{Refusal}
use Rattle.refusal.specs.declared.Refusal.TheVariants.{Header, Sections, Coordinates, Planes, Children, Runs, Panels, Patches, Division, View, Lengths, Counter, Struck, Axes, Station}
use Rattle.refusal.specs.Refusal.{refusal_number, answer_of}

-- it is answered by its own number
pub handed_on :
    {T : Type 0} (r : Refusal) (result : Result T Refusal) → IsErrAnd result (λ (e : Refusal). e ≡ r) →
    answer_of result ≡ refusal_number r
handed_on r (Ok t) h = absurd h
handed_on r (Err q) h = ap refusal_number h

pub never_done : (r : Refusal) → refusal_number r ≡ 0 → ⊥
never_done Header e = omega arith
never_done Sections e = omega arith
never_done Coordinates e = omega arith
never_done Planes e = omega arith
never_done Children e = omega arith
never_done Runs e = omega arith
never_done Panels e = omega arith
never_done Patches e = omega arith
never_done Division e = omega arith
never_done View e = omega arith
never_done Lengths e = omega arith
never_done Counter e = omega arith
never_done Struck e = omega arith
never_done Axes e = omega arith
never_done Station e = omega arith
