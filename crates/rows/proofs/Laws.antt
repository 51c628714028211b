-- For callers: rows and their words stay such; and the spans that are laid on a fresh one.
use mathlib.Core.Path.{◌≡◌, sym, ap, ◌∙◌}
use mathlib.Core.Bool.{Bool, true}
use mathlib.Core.List.{List, [], ◌∷◌, ◌++◌}
use Prim.Native.Nat.{ℕ, suc, ◌≤◌}
use native.Mathlib.Omega.{arith}
use lib.ListN.{length}
use Rattle.model.specs.Row.{row_of, after_span}
use Rattle.model.specs.Map.{map_row}
use Rattle.laying.specs.Laid.{Lays}
use Rattle.rows.specs.Span.{UnderWork, Reports}
use Rattle.segments.specs.Looks.{Columns, fresh, after_spans, most_looks}
use Rattle.segments.proofs.Mapped.{fresh_map}
use Rattle.segments.proofs.Painting.{painted_length}
use Rattle.segments.proofs.Looking.{looks_bounded, after_next}

-- a fresh row and four zeros are under work, and so are a row and its words on which a span was laid
pub work_fresh :
    {width n : ℕ} {row words : List ℕ} → width ≡ n → n ≤ 256 → row ≡ row_of n (λ (i : ℕ). true) → words ≡ 0 ∷ 0 ∷ 0 ∷ 0 ∷ [] → UnderWork width row words
work_fresh {width} w fits e zeros =
    record { listed = record { fits = omega arith; unlit = λ (i : ℕ). true; row_is = rw w e }; words_are = zeros ∙ fresh_map width }

pub work_laid :
    {first last panel : ℕ} {row words cells row' words' cells' : List ℕ} → UnderWork (length cells) row words →
    ((unlit : ℕ → Bool) → row ≡ row_of (length cells) unlit → Lays unlit first last panel cells row' cells') →
    ((unlit : ℕ → Bool) → row ≡ row_of (length cells) unlit → words' ≡ map_row (length cells) (after_span unlit first last)) →
    UnderWork (length cells') row' words'
work_laid {first} {last} {panel} {cells = cells} {row'} {words'} {cells'} w lays lights =
    let r = w.listed in
    let l = lays r.unlit r.row_is in
    let e : length cells ≡ length cells' = sym (ap length l.cells_are ∙ painted_length _ panel cells) in
    record {
      listed = record { fits = rw e at r.fits; unlit = after_span r.unlit first last; row_is = l.row_is ∙ rw e };
      words_are = lights r.unlit r.row_is ∙ rw e;
    }

-- ---- spans laid one after the other on a fresh row: `before` are those laid so far

pub row_next :
    {first last panel : ℕ} {cells row' cells' : List ℕ} (before : List Columns) →
    Lays (after_spans fresh before) first last panel cells row' cells' →
    row' ≡ row_of (length cells) (after_spans fresh (before ++ record { first = first; last = last } ∷ []))
row_next {first} {last} {cells = cells} before l =
    l.row_is ∙ ap (row_of (length cells)) (sym (after_next before (record { first = first; last = last }) fresh))

-- Document 02, F-6: "The k-th span of a fresh row looks at no more than the smaller of k and 128": the number that `lay` reports, by its own promise.
pub looked_bounded :
    {first last lit looked : ℕ} {full : Bool} {row : List ℕ} (cells : List ℕ) (before : List Columns) →
    length cells ≤ 256 →
    row ≡ row_of (length cells) (after_spans fresh before) →
    ((unlit : ℕ → Bool) → row ≡ row_of (length cells) unlit → Reports unlit first last (length cells) full lit looked) →
    looked ≤ most_looks (suc (length before))
looked_bounded {first} {last} cells before fits e reports =
    rw (reports _ e).looked_is (looks_bounded (length cells) fits before (record { first = first; last = last }))
