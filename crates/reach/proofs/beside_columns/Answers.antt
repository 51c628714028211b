-- `all` asks the corners after the first, whose numbers have to have the sign of the first corner's.
use mathlib.Core.Path.{◌≡◌, refl, sym, ap, subst, subst₂}
use mathlib.Core.Logic.{◌≢◌}
use Prim.Native.Nat.{ℕ, ◌-◌, ◌<◌}
use native.Mathlib.Omega.{arith}
use mathlib.Core.Bool.{not}
use lib.Dec.{T, eqb, lit≤}
use lib.IntN.{pos, ◌-ℤ◌}
use mir.Syntax.{w64}
use mir.Val.{to_z, of_z}
use mir.ValLaws.{to_z-of_z}
use Rattle.std.specs.Prelude.{◌↔◌}
use Rattle.std.proofs.Common.{rules, tests}
use Rattle.std.proofs.lemmas.Iterator.{serves_from_Range, YieldsList-from_range, cases_from_all}
use Rattle.integer.proofs.Comparison.{comparisons}
use Rattle.geometry.specs.Machine.{vec_of, Bounded}
use Rattle.geometry.proofs.Sizes.{vec_within}
use Rattle.model.specs.Format.{decode, patch_numbered}
use Rattle.format.specs.Layout.{corner_number}
use Rattle.reach.specs.Columns.{OneSided}
use Rattle.reach.proofs.ProperPatches.{numbered_ranged}
use Rattle.reach.proofs.CornerSides.{bounded_more}
use Rattle.reach.proofs.ColumnSides.{width_fits, last_column_fits, last_column, last_column_within, HasSame, HasOther, no_sign, sided_exactly, said_no, said_yes, sided_missed}
use Rattle.reach.proofs.beside_columns.Goals as goal
use Rattle.reach.proofs.beside_columns.Goals.{After-all}

pub overflow_cast-last : goal.overflow_cast-last
overflow_cast-last c = width_fits c.requires.width_limit

pub overflow_sub-last : goal.overflow_sub-last
overflow_sub-last c = last_column_fits c.requires.width_limit

pub common_sign-side-requires : goal.common_sign-side-requires
common_sign-side-requires c =
    let h = c.requires in (
      h.eye_bounded,
      c.corner.ensures.bounded,
      bounded_more (lit≤ tt) h.planes_of.columns_of.first_is.bounded,
      bounded_more (lit≤ tt) h.planes_of.columns_of.next_is.bounded,
      last_column_within h.width_limit,
    )

pub all-requires-clause-callable : goal.all-requires-clause-callable
all-requires-clause-callable c =
    let h = c.requires in
    let first : Bounded 800000000 c.args.planes.columns.first = bounded_more (lit≤ tt) h.planes_of.columns_of.first_is.bounded in
    let next : Bounded 800000000 c.args.planes.columns.next = bounded_more (lit≤ tt) h.planes_of.columns_of.next_is.bounded in
    let last = last_column_within h.width_limit in
    let inside = c.corner_run-run.ensures.run_inside in
    let few = c.args.scene.now.checked.laid.few_corners in
    serves_from_Range (λ x q k. search rules) (λ x low high. search (rules, few, inside))

exactly : (c : After-all) →
    T c.all.result ↔ OneSided (vec_of c.args.eye) c.args.planes.columns (pos c.args.raster.width -ℤ pos 1) (patch_numbered (decode c.args.scene.now.bytes.now) c.args.k).corners
exactly c =
    let s = c.args.scene.now in
    let run = c.corner_run-run.result in
    let some : 0 < run.count = omega (arith, c.corner_run-run.ensures.three) in
    let corner = corner_number s.bytes.now s.layout in
    let eye = vec_of c.args.eye in
    let columns = c.args.planes.columns in
    let last = to_z w64 (of_z w64 (to_z w64 c.args.raster.width -ℤ pos 1)) in
    let side = c.common_sign-side.result in
    let stored : to_z w64 (of_z w64 side) ≡ side = to_z-of_z w64 side (record { sfits = c.common_sign-side.type_inv }) in
    let strict : side ≢ pos 0 = λ z. c.if-side-ne0.true (ap (of_z w64) z) in
    let cases =
    cases_from_all _ _ _ (HasSame eye columns last corner run.first side) (HasOther eye columns last corner run.first side) c.all.ensures.ran
    (YieldsList-from_range 1 run.count (run.count - 1) refl (omega arith))
    (λ x q k. search (rules, tests, comparisons, stored)) (λ x q k. search (rules, tests, comparisons, stored)) in
    let e = sided_exactly corner run.first run.count some c.corner.ensures.value c.common_sign-side.ensures c.all.result strict cases in (
      λ t. said_yes (last_column c.requires.width_limit) c.corner_run-run.ensures.corners_are (e.0 t),
      λ o. e.1 (subst₂ (OneSided eye columns) (sym (last_column c.requires.width_limit)) c.corner_run-run.ensures.corners_are o),
    )

pub returns-then-side-ne0-clause-exact : goal.returns-then-side-ne0-clause-exact
returns-then-side-ne0-clause-exact c = exactly c

pub returns-then-side-ne0-clause-missed : goal.returns-then-side-ne0-clause-missed
returns-then-side-ne0-clause-missed c =
    let h = c.requires in
    λ t. sided_missed c.args.raster ((exactly c).0 t) h.planes_of.columns_of (vec_within h.eye_bounded) h.proper (numbered_ranged c.args.scene.now.checked c.args.k h.number)

pub returns-else-side-ne0-clause-exact : goal.returns-else-side-ne0-clause-exact
returns-else-side-ne0-clause-exact c =
    let s = c.args.scene.now in
    let run = c.corner_run-run.result in
    let some : 0 < run.count = omega (arith, c.corner_run-run.ensures.three) in
    let no = said_no (last_column c.requires.width_limit) c.corner_run-run.ensures.corners_are
    (no_sign (corner_number s.bytes.now s.layout) run.first run.count some c.corner.ensures.value c.common_sign-side.ensures (search (comparisons, c.if-side-ne0.false))) in
    (λ t. absurd (subst (λ (n : ℕ). T (not (eqb n 0))) c.if-side-ne0.false t), λ o. absurd (no o))
