-- A survey leaves what its buffers and its counter hold in the end.
use mathlib.Core.Path.{◌≡◌, subst}
use mathlib.Core.List.{List}
use Prim.Native.Nat.{ℕ}
use Rattle.model.specs.View.{Camera}
use Rattle.model.specs.Station.{Station}
use Rattle.model.specs.Lent.{Lent}
use Rattle.contract.specs.Contract.{lent_of, Surveyed}

pub left_in :
    {bytes : List ℕ} {s : Station} {c : Camera} {before : Lent} {p p' n n' b b' u u' m m' : List ℕ} {k k' result : ℕ} →
    p ≡ p' →
    n ≡ n' →
    b ≡ b' →
    u ≡ u' →
    m ≡ m' →
    k ≡ k' →
    Surveyed bytes s c before (lent_of p n b u m k) result →
    Surveyed bytes s c before (lent_of p' n' b' u' m' k') result
left_in {bytes} {s} {c} {before} {result = result} p n b u m k h =
    subst (λ (after : Lent). Surveyed bytes s c before after result) (λ i. lent_of (p i) (n i) (b i) (u i) (m i) (k i)) h
