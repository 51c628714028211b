-- What the loop that lays the worst spans knows before each turn, and what a turn gives.
use mathlib.Core.Path.{◌≡◌, refl, sym, ap, ◌∙◌}
use mathlib.Core.Bool.{Bool}
use mathlib.Core.List.{List, [], ◌∷◌, ◌++◌, map, map-append, sum, sum-append}
use Prim.Native.Nat.{ℕ, ◌+◌, ◌*◌, ◌≤◌, ◌<◌}
use native.Mathlib.Nat.{zero-add, add-zero, add_assoc}
use native.Mathlib.Omega.{arith}
use lib.ListN.{length}
use Rattle.model.specs.Lists.{range}
use Rattle.model.specs.Row.{row_of, after_span}
use Rattle.model.specs.Map.{map_row}
use Rattle.model.proofs.Ranges.{range_append}
use Rattle.segments.specs.Looks.{Columns, fresh, after_spans, looks, looks_in_order}
use Rattle.segments.proofs.Painting.{painted_length}
use Rattle.segments.proofs.Looking.{after_next, looks_next}
use Rattle.segments.proofs.Mapped.{fresh_map}
use Rattle.laying.specs.Laid.{Lays}
use Rattle.rows.specs.Span.{UnderWork, Reports}
use Rattle.rows.proofs.Laws.{row_next}
use Rattle.worst_case.specs.WorstCase.{worst_span, worst_spans, worst_looks, bounds_together}
use Rattle.worst_case.proofs.Reached.{worst_reach, bounds_few}

-- k spans were laid
pub record Laying (n : ℕ) (row words cells : List ℕ) (looked k : ℕ) : Type 0 where
  pub most : k ≤ n
  pub wide : length cells ≡ 256
  pub row_is : row ≡ row_of 256 (after_spans fresh (worst_spans k))
  pub words_are : words ≡ map_row 256 (after_spans fresh (worst_spans k))
  pub looked_is : looked ≡ worst_looks k

spans_next : (k : ℕ) → worst_spans (k + 1) ≡ worst_spans k ++ worst_span (k + 1) ∷ []
spans_next k =
    ap (map worst_span) (range_append 1 k 1)
    ∙ map-append worst_span (range 1 k) (range (1 + k) 1)
    ∙ ap (λ (m : ℕ). worst_spans k ++ worst_span m ∷ []) (omega arith)

looks_more : (k : ℕ) → worst_looks (k + 1) ≡ worst_looks k + looks 256 (after_spans fresh (worst_spans k)) (worst_span (k + 1))
unfolding sum
looks_more k =
    let here : ℕ = looks 256 (after_spans fresh (worst_spans k)) (worst_span (k + 1)) in
    let so_far : List ℕ = looks_in_order 256 fresh (worst_spans k) in
    ap (λ (cs : List Columns). sum ◌+◌ 0 (looks_in_order 256 fresh cs)) (spans_next k)
    ∙ ap (sum ◌+◌ 0) (looks_next 256 (worst_spans k) (worst_span (k + 1)) fresh)
    ∙ sum-append {A = ℕ} ◌+◌ 0 zero-add add_assoc so_far (here ∷ [])
    ∙ ap (λ (m : ℕ). sum ◌+◌ 0 so_far + m) (add-zero here)

pub starts : (n : ℕ) {row words cells : List ℕ} → length cells ≡ 256 → row ≡ row_of 256 fresh → words ≡ 0 ∷ 0 ∷ 0 ∷ 0 ∷ [] → Laying n row words cells 0 0
unfolding after_spans looks_in_order sum
starts n w e zeros = record { most = omega arith; wide = w; row_is = e; words_are = zeros ∙ fresh_map 256; looked_is = refl }

module _ {n looked k : ℕ} {row words cells : List ℕ} (p : Laying n row words cells looked k) where
  row_now : row ≡ row_of (length cells) (after_spans fresh (worst_spans k))
  row_now = rw p.wide p.row_is

  pub under_work : UnderWork (length cells) row words
  under_work =
      record {
        listed = record { fits = omega (arith, p.wide); unlit = after_spans fresh (worst_spans k); row_is = row_now };
        words_are = rw p.wide p.words_are;
      }

  -- the sum fits 64 bits with as many spans as 32 bits can number
  pub looks_few : looked ≤ 128 * k
  looks_few = rw (p.looked_is, worst_reach k) (bounds_few 1 k)

  pub ends : n ≤ k → (looked ≡ worst_looks n) × (looked ≡ bounds_together n)
  ends h =
      let e : k ≡ n = omega (arith, p.most) in
      let all : looked ≡ worst_looks n = p.looked_is ∙ ap worst_looks e in
      (all, all ∙ worst_reach n)

  -- the next span was laid
  module _
      {first last panel lit here : ℕ} {full : Bool} {row' words' cells' : List ℕ} (f : first ≡ (worst_span (k + 1)).first) (l : last ≡ (worst_span (k + 1)).last)
      (lays : (unlit : ℕ → Bool) → row ≡ row_of (length cells) unlit → Lays unlit first last panel cells row' cells')
      (reports : (unlit : ℕ → Bool) → row ≡ row_of (length cells) unlit → Reports unlit first last (length cells) full lit here)
      (lights : (unlit : ℕ → Bool) → row ≡ row_of (length cells) unlit → words' ≡ map_row (length cells) (after_span unlit first last)) where
    here_is : here ≡ looks 256 (after_spans fresh (worst_spans k)) (worst_span (k + 1))
    here_is = (reports _ row_now).looked_is ∙ rw (p.wide, f, l)

    pub goes_on : k < n → Laying n row' words' cells' (looked + here) (k + 1)
    goes_on h =
        let laid = lays _ row_now in
        record {
          most = omega arith;
          wide = ap length laid.cells_are ∙ painted_length _ panel cells ∙ p.wide;
          row_is =
              row_next (worst_spans k) laid
              ∙ rw (p.wide, f, l) (ap (λ (cs : List Columns). row_of 256 (after_spans fresh cs)) (sym (spans_next k)));
          words_are =
              lights _ row_now
              ∙ ap (map_row (length cells)) (sym (after_next (worst_spans k) (record { first = first; last = last }) fresh))
              ∙ rw (p.wide, f, l) (ap (λ (cs : List Columns). map_row 256 (after_spans fresh cs)) (sym (spans_next k)));
          looked_is = rw (p.looked_is, here_is) (sym (looks_more k));
        }
