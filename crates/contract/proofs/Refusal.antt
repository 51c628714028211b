-- A refusal leaves what was lent.
use mathlib.Core.Path.{◌≡◌, refl}
use Prim.Native.Nat.{ℕ, zero, suc}
use Rattle.model.specs.Lent.{Lent}
use Rattle.contract.specs.Contract.{left_by}

pub left_old : (n : ℕ) (new old : Lent) → (n ≡ 0 → ⊥) → old ≡ left_by n new old
left_old zero new old f = absurd (f refl)
left_old (suc n) new old f = refl
