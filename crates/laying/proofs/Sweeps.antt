-- What the loop that lays a span knows before each turn, and what a turn gives.
use mathlib.Core.Path.{◌≡◌, refl, sym, ap, subst⁻¹, ◌∙◌}
use mathlib.Core.Bool.{Bool, true, false, ◌&&◌}
use mathlib.Core.List.{List, [], ◌∷◌}
use Prim.Native.Nat.{ℕ, ◌+◌, ◌≤◌, ◌<◌}
use native.Mathlib.Nat.{add-zero}
use native.Mathlib.Omega.{arith}
use lib.ListN.{length}
use Rattle.model.specs.Row.{Segment, segments}
use Rattle.laying.specs.Laid.{Row}
use Rattle.segments.specs.Columns.{in_span}
use Rattle.segments.specs.Looks.{looked_at}
use Rattle.segments.specs.Segments.{in_segment, Placed, row_from, segment_at, Reads}
use Rattle.stepping.specs.Step.{Reached, Steps}
use Rattle.segments.proofs.Segments.{member, head_placed}
use Rattle.segments.proofs.Cut.{cut}
use Rattle.segments.proofs.Painting.{painted_none}
use Rattle.segments.proofs.Tallies.{tally_most, tally_clear}
use Rattle.stepping.proofs.Keeping.{held_segment}
use Rattle.laying.proofs.Sweeping.{Sweeping, Swept, sweep_starts, swept, held_end, step_stops, step_goes}

-- some segments are left
pub record Sweeps (row₀ cells₀ : List ℕ) (first last panel : ℕ) (row cells : List ℕ) (k looked lit : ℕ) : Type 0 where
  pub rest : List Segment
  pub on : Sweeping row₀ cells₀ first last panel row cells k looked lit rest

pub starts : {row cells : List ℕ} (first last panel : ℕ) → Row (length cells) row → Sweeps row cells first last panel row cells 0 0 0
starts {row} {cells} first last panel r = record { rest = segments (length cells) r.unlit; on = sweep_starts first last panel r }

-- the columns lit before, and those that are lit now: neither are more than the row's
pub sweep_fits :
    {row₀ cells₀ : List ℕ} {first last panel : ℕ} {row cells : List ℕ} {k looked lit : ℕ} {rest : List Segment} →
    Sweeping row₀ cells₀ first last panel row cells k looked lit rest →
    {row' cells' : List ℕ} {next : ℕ} {go : Bool} {lit_here : ℕ} →
    Steps k first last panel row cells row' cells' next go lit_here → (lit ≤ 256) × (lit_here ≤ 256)
sweep_fits {cells₀} {first} {last} {row} {cells} {k} inv step = (
  omega (arith, inv.lit_law, tally_most (λ (i : ℕ). inv.unlit i && in_span first last i) (length cells₀), inv.fits),
  omega (arith, step.lit_is, tally_most (λ (i : ℕ). in_segment (segment_at row k) i && in_span first last i) (length cells), inv.width, inv.fits),
)

module _ {row₀ cells₀ : List ℕ} {first last panel : ℕ} (span : first ≤ last) {row cells : List ℕ} {k looked lit : ℕ} where
  sweep_empty : Sweeping row₀ cells₀ first last panel row cells k looked lit [] → Swept row₀ cells₀ first last panel row cells lit looked
  unfolding cut member looked_at
  sweep_empty inv =
      swept inv.unlit span inv.fits inv.start (inv.held.row_is ∙ ap row_from (sym inv.row_law))
      (sym (inv.cells_law ∙ painted_none _ panel cells (λ i h. refl)))
      (omega (arith, inv.lit_law, tally_clear (λ (i : ℕ). member [] i && in_span first last i) (length cells₀) (λ i h. refl)))
      (sym (inv.looked_law ∙ add-zero _))

  -- no segment is left
  pub sweep_out :
      {rest : List Segment} → Sweeping row₀ cells₀ first last panel row cells k looked lit rest → 128 ≤ looked →
      Swept row₀ cells₀ first last panel row cells lit looked
  sweep_out {rest = []} inv h = sweep_empty inv
  sweep_out {rest = s ∷ ss} inv h = absurd (omega (arith, inv.left))

  module _ {offset count : ℕ} (r : Reads row k offset count) where
    filled_read : {s : Segment} {ss : List Segment} → Sweeping row₀ cells₀ first last panel row cells k looked lit (s ∷ ss) → 0 < count
    filled_read inv =
        omega (arith, (head_placed inv.held.ordered).filled, ap (λ (x : Segment). x.count) (held_segment inv.held), r.count_is)

    pub sweep_ends :
        {rest : List Segment} → Sweeping row₀ cells₀ first last panel row cells k looked lit rest → count ≡ 0 →
        Swept row₀ cells₀ first last panel row cells lit looked
    sweep_ends {rest = []} inv e = sweep_empty inv
    sweep_ends {rest = s ∷ ss} inv e = absurd (omega (arith, filled_read inv))

    pub sweep_reached :
        {rest : List Segment} → Sweeping row₀ cells₀ first last panel row cells k looked lit rest → looked < 128 →
        (count ≡ 0 → ⊥) → Reached k first last row cells
    sweep_reached {rest = []} inv h n = absurd (n (r.count_is ∙ held_end inv.held (omega (arith, inv.passed))))
    sweep_reached {rest = s ∷ ss} inv h n =
        let p = head_placed inv.held.ordered in
        record {
          place = omega (arith, inv.passed);
          span = span;
          placed =
              subst⁻¹ (Placed (length cells) 0) (held_segment inv.held)
              (record { from = omega arith; filled = p.filled; inside = omega (arith, p.inside, inv.width) });
          fits = omega (arith, inv.fits, inv.width);
        }

    module _
        {row' cells' : List ℕ} {next : ℕ} {go : Bool} {lit_here : ℕ}
        (step : Steps k first last panel row cells row' cells' next go lit_here) where
      pub sweep_stops :
          {rest : List Segment} → Sweeping row₀ cells₀ first last panel row cells k looked lit rest → looked < 128 →
          (count ≡ 0 → ⊥) → go ≡ false → Swept row₀ cells₀ first last panel row' cells' (lit + lit_here) (looked + 1)
      sweep_stops {rest = []} inv h n e = absurd (n (r.count_is ∙ held_end inv.held (omega (arith, inv.passed))))
      sweep_stops {rest = s ∷ ss} inv h n e = step_stops span inv step e

      pub sweep_goes :
          {rest : List Segment} → Sweeping row₀ cells₀ first last panel row cells k looked lit rest → looked < 128 →
          (count ≡ 0 → ⊥) → go ≡ true → Sweeps row₀ cells₀ first last panel row' cells' next (looked + 1) (lit + lit_here)
      sweep_goes {rest = []} inv h n e = absurd (n (r.count_is ∙ held_end inv.held (omega (arith, inv.passed))))
      sweep_goes {rest = s ∷ ss} inv h n e = record { rest = ss; on = step_goes span inv step e }
