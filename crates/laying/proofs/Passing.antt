-- The segments that end before the span: they are counted, and nothing of the row or the cells is changed for them.
use mathlib.Core.Path.{◌≡◌, refl, sym, subst}
use mathlib.Core.Logic.{inl, inr}
use mathlib.Core.Bool.{true, false}
use mathlib.Core.List.{List}
use Prim.Native.Nat.{ℕ, zero, suc, ◌+◌, ◌-◌, ◌≤◌, ◌<◌}
use native.Mathlib.Decide.{ℕ_discrete}
use native.Mathlib.Omega.{arith}
use lib.Dec.{ltb}
use lib.ListN.{length}
use borrow.Author.Tests.{lt-ltb, lt-leb}
use Rattle.model.specs.Row.{Segment}
use Rattle.segments.specs.Segments.{segment_at, Reads}
use Rattle.positions.specs.Positions.{Acts}
use Rattle.laying.specs.Laid.{Row, Before, AllBefore}
use Rattle.stepping.proofs.Stepping.{steps_missed}
use Rattle.laying.proofs.Sweeps.{Sweeps, starts, sweep_reached, sweep_goes}

pub before_none : (row : List ℕ) (column : ℕ) → Before row column 0
before_none row column = record { few = omega arith; each = λ m h. absurd (omega arith) }

module _ {row : List ℕ} {column k : ℕ} (before : Before row column k) where
  pub before_out : 128 ≤ k → AllBefore row column k
  before_out h = record { before = before; next = λ l. absurd (omega arith) }

  module _ {offset count : ℕ} (r : Reads row k offset count) where
    pub before_ends : count ≡ 0 → AllBefore row column k
    before_ends e = record { before = before; next = λ l. inl (omega (arith, r.count_is)) }

    pub before_stops : column < offset + count → AllBefore row column k
    before_stops e = record { before = before; next = λ l. inr (omega (arith, r.offset_is, r.count_is)) }

    pub before_more : k < 128 → (count ≡ 0 → ⊥) → offset + count ≤ column → Before row column (k + 1)
    before_more h n e = record { few = omega arith; each = λ m l. at m l (ℕ_discrete m k) }
      where
        some : Dec (count ≡ 0) → 0 < count
        some (yes z) = absurd (n z)
        some (no z) = omega arith

        at :
            (m : ℕ) → m < k + 1 → Dec (m ≡ k) →
            (0 < (segment_at row m).count) × ((segment_at row m).offset + (segment_at row m).count ≤ column)
        at m l (yes i) = rw i (omega (arith, some (ℕ_discrete count 0), r.count_is), omega (arith, r.offset_is, r.count_is))
        at m l (no i) = before.each m (omega arith)

-- laying the span may begin after them, as if it had been laid on each
module _ {row cells : List ℕ} (first last panel : ℕ) (span : first ≤ last) (r : Row (length cells) row) where
  pub passes : {n : ℕ} → AllBefore row first n → Sweeps row cells first last panel row cells n n 0
  passes {n} all = go n (omega arith)
    where
      go : (m : ℕ) → m ≤ n → Sweeps row cells first last panel row cells m m 0
      go zero h = starts first last panel r
      go (suc m) h =
          let s : Segment = segment_at row m in
          let b = all.before.each m (omega arith) in
          let on = (go m (omega arith)).on in
          let reads : Reads row m s.offset s.count = record { offset_is = refl; count_is = refl } in
          let right : ℕ = s.offset + (s.count - 1) in
          let acts : Acts first last s.offset right false true (ltb last right) true =
          record {
            paint_is = rw (lt-leb first right (omega arith));
            before_is = sym (lt-ltb s.offset first (omega arith));
            after_is = refl;
            next_is = sym (lt-ltb right last (omega arith));
          } in
          let some : s.count ≡ 0 → ⊥ = λ e. omega arith in
          let reached = sweep_reached span reads on (omega (arith, all.before.few)) some in
          let one : m + 1 ≡ suc m = omega arith in
          subst (λ (k : ℕ). Sweeps row cells first last panel row cells k k 0) one
          (sweep_goes span reads (steps_missed reached reads acts {step = 1} refl refl) on (omega (arith, all.before.few)) some refl)
