-- `box_sides::all_held` meets its contract.
use mathlib.Core.Path.{◌≡◌, sym, subst}
use lib.IntN.{pos}
use lib.Signed.{◌≤ℤ◌, ≤ℤ_refl}
use Rattle.integer.proofs.Comparison.{comparisons}
use Rattle.box_sides.proofs.BoxTold.{strictly, touching}
use Rattle.box_sides.proofs.BoxSides.{all_told, opposite}
use Rattle.box_sides.proofs.all_held.Goals as goal

pub returns-then-z-gt0 : goal.returns-then-z-gt0
returns-then-z-gt0 c =
    all_told c.args.plane c.args.wanted (opposite _ _ c.if-wanted.false) c.least_number-z.ensures (λ y. strictly (search comparisons))

pub returns-then-z-eq0 : goal.returns-then-z-eq0
returns-then-z-eq0 c =
    all_told c.args.plane c.args.wanted (opposite _ _ c.if-wanted.false) c.least_number-z.ensures
    (λ y. touching (c.some_free.ensures.says y) (let on_the_plane : c.least_number-z.result ≡ pos 0 = search comparisons in subst (pos 0 ≤ℤ◌) (sym on_the_plane) (≤ℤ_refl _)))
