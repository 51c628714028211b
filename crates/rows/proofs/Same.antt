-- Document 02, F-8: "Map and list describe the same cells on a fresh row, and after every span if they did before it."
use mathlib.Core.Path.{◌≡◌, refl, sym, ap, ◌∙◌}
use mathlib.Core.Bool.{Bool, true, false, not, ◌&&◌, ◌||◌, true≢false}
use mathlib.Core.List.{List, [], ◌∷◌}
use Prim.Native.Nat.{ℕ, zero, suc, ◌+◌, ◌*◌, ◌^◌, ◌<◌}
use native.Mathlib.Nat.{zero-add}
use native.Mathlib.Omega.{arith}
use borrow.Author.Tests.{le-leb, le-ltb}
use lib.Dec.{ltb}
use lib.ListN.{length, get_or, set}
use lib.Seq.{ext_get_or}
use Rattle.model.specs.Lists.{range, tally}
use Rattle.model.specs.Row.{row_of, used_pairs, in_pairs, after_span}
use Rattle.model.specs.Map.{lit_column, lit_at, map_row, SameCells}
use Rattle.segments.specs.Columns.{in_span}
use Rattle.laying.specs.Laid.{Row, Lays}
use Rattle.rows.specs.Span.{UnderWork}
use Rattle.model.proofs.Tests.{tally_none}
use Rattle.model.proofs.Ranges.{in_range}
use Rattle.model.proofs.Bits.{word_is}
use Rattle.model.proofs.LitMap.{map_bit, map_length, map_word_lem, lit_in_word, map_congr}
use Rattle.segments.proofs.Tests.{failed}
use Rattle.segments.proofs.Rows.{zeros, row_determines}
use Rattle.segments.proofs.Full.{fresh_row}
use Rattle.segments.proofs.Mapped.{pairs_column, same_of_set, fresh_map}

-- the one pair of a fresh row has all columns below the width; where the width is 0 there are none
all_unlit : (width i : ℕ) → (ltb i width && false) ≡ lit_column width (in_pairs (used_pairs (set (zeros 256) 1 width))) i
unfolding used_pairs in_pairs
all_unlit zero i = rw (le-ltb i 0 (omega arith))
all_unlit (suc n) i = rw (zero-add, le-leb 0 i (omega arith)) (go (ltb i (suc n)))
  where
    go : (b : Bool) → (b && false) ≡ (b && not (b || false))
    go true = refl
    go false = refl

-- "on a fresh row", of any width: it has one pair at most, and no column is lit
pub same_fresh : (width : ℕ) {row : List ℕ} → row ≡ row_of width (λ (i : ℕ). true) → SameCells width row (0 ∷ 0 ∷ 0 ∷ 0 ∷ [])
unfolding SameCells
same_fresh width e i h =
    rw (e, ← fresh_row width)
    (ap (λ (words : List ℕ). lit_at words i) (fresh_map width) ∙ map_bit width (λ (k : ℕ). true) i h ∙ all_unlit width i)

-- A row and four words of 64 bits that describe the same cells are those of one set of unlit columns: what laying asks is just that "they did before it".
pub same_before :
    {width : ℕ} {row words : List ℕ} → Row width row → length words ≡ 4 → ((k : ℕ) → k < 4 → get_or words k 0 < 2 ^ 64) →
    SameCells width row words → UnderWork width row words
unfolding SameCells
same_before {width} {row} {words} r long small same =
    record { listed = r; words_are = ext_get_or 0 words (map_row width r.unlit) (long ∙ sym (map_length width r.unlit)) (λ k h. word k (omega arith)) }
  where
    column : (i : ℕ) → lit_column width (in_pairs (used_pairs row)) i ≡ lit_column width r.unlit i
    column i = ap (λ (ns : List ℕ). lit_column width (in_pairs (used_pairs ns)) i) r.row_is ∙ pairs_column width r.fits r.unlit i

    word : (k : ℕ) → k < 4 → get_or words k 0 ≡ get_or (map_row width r.unlit) k 0
    word k h =
        word_is (get_or words k 0) (small k h) (λ (b : ℕ). lit_column width r.unlit (64 * k + b))
        (λ b l. sym (lit_in_word words k b l) ∙ same (64 * k + b) (omega arith) ∙ column (64 * k + b))
        ∙ sym (map_word_lem width r.unlit k h)

pub same_after :
    {first last panel : ℕ} {row words cells row' words' cells' : List ℕ} → UnderWork (length cells) row words →
    ((unlit : ℕ → Bool) → row ≡ row_of (length cells) unlit → Lays unlit first last panel cells row' cells') →
    ((unlit : ℕ → Bool) → row ≡ row_of (length cells) unlit → words' ≡ map_row (length cells) (after_span unlit first last)) →
    SameCells (length cells) row' words'
same_after {first} {last} {cells = cells} w lays lights =
    let r = w.listed in
    rw ((lays r.unlit r.row_is).row_is, lights r.unlit r.row_is)
    (same_of_set (length cells) r.fits (after_span r.unlit first last))

-- the words are those of whichever set the row is of
pub words_now : {width : ℕ} {row words : List ℕ} → UnderWork width row words → (unlit : ℕ → Bool) → row ≡ row_of width unlit → words ≡ map_row width unlit
words_now {width} w unlit e =
    let r = w.listed in
    w.words_are ∙ map_congr width r.unlit unlit (row_determines width r.fits r.unlit unlit (sym r.row_is ∙ e))

-- a span that newly lit no cell leaves the words as they were
pub words_stay :
    (width first last : ℕ) {words : List ℕ} (unlit : ℕ → Bool) → tally (λ (i : ℕ). unlit i && in_span first last i) (range 0 width) ≡ 0 →
    words ≡ map_row width unlit → words ≡ map_row width (after_span unlit first last)
words_stay width first last unlit none e = e ∙ map_congr width _ _ (λ i h. stays (unlit i) (in_span first last i) (outside i h))
  where
    test : ℕ → Bool
    test i = unlit i && in_span first last i

    outside : (i : ℕ) → i < width → test i ≡ false
    outside i h = failed (test i) ((tally_none test (range 0 width)).0 none i ((in_range 0 width i).1 (omega arith, omega arith)))

    stays : (u s : Bool) → (u && s) ≡ false → u ≡ (u && not s)
    stays true true e = absurd (true≢false e)
    stays true false e = refl
    stays false s e = refl
