-- The words of a row of the lit map: four of them, each column's bit, and the two answers on the row.
use mathlib.Core.Path.{◌≡◌, refl, sym, ap, ap₂, subst, ◌∙◌}
use mathlib.Core.Logic.{◌⊎◌, inl, inr}
use mathlib.Core.Bool.{Bool, true, false, cond, not, ◌&&◌, not-not}
use mathlib.Core.List.{List}
use Prim.Native.Nat.{ℕ, zero, suc, ◌+◌, ◌-◌, ◌*◌, ◌/◌, ◌%◌, ◌≤◌, ◌<◌}
use native.Mathlib.Nat.{add-zero, zero-add}
use native.Mathlib.Omega.{arith}
use lib.Dec.{T, ltb}
use lib.ListN.{length, get_or}
use borrow.Author.Tests.{lt-ltb, le-ltb}
use Rattle.model.specs.Lists.{range, add_if, tally}
use Rattle.model.specs.Map.{row_words, row_bits, bit_of, lit_column, map_word, map_row, lit_at, first_of}
use Rattle.model.proofs.Tests.{lt_or_ge}
use Rattle.model.proofs.Ranges.{range_append}
use Rattle.model.proofs.Totals.{tally_append}
use Rattle.model.proofs.Tables.{length_table, table_at, same_table}
use Rattle.model.proofs.Bits.{word_bit, word_congr}

module _ (width : ℕ) (unlit : ℕ → Bool) where
  pub map_length : length (map_row width unlit) ≡ row_words
  unfolding map_row
  map_length = length_table (map_word width unlit) 0 row_words

  pub map_word_lem : (k : ℕ) → k < row_words → get_or (map_row width unlit) k 0 ≡ map_word width unlit k
  unfolding map_row
  map_word_lem k h = table_at (map_word width unlit) row_words k 0 h

  pub map_bit : (i : ℕ) → i < row_bits → lit_at (map_row width unlit) i ≡ lit_column width unlit i
  unfolding lit_at
  map_bit i h =
      let e : 64 * (i / 64) + i % 64 ≡ i = omega arith in
      ap (λ (w : ℕ). bit_of w (i % 64)) (map_word_lem (i / 64) (omega arith))
      ∙ word_bit (λ (b : ℕ). lit_column width unlit (64 * (i / 64) + b)) (i % 64) (omega arith)
      ∙ ap (lit_column width unlit) e

-- a column of word k
pub lit_in_word : (ws : List ℕ) (k b : ℕ) → b < 64 → lit_at ws (64 * k + b) ≡ bit_of (get_or ws k 0) b
unfolding lit_at
lit_in_word ws k b h =
    let q : (64 * k + b) / 64 ≡ k = omega arith in
    let r : (64 * k + b) % 64 ≡ b = omega arith in
    ap₂ (λ (m n : ℕ). bit_of (get_or ws m 0) n) q r

-- a map depends on the columns below the width alone
column_congr : (width : ℕ) (u v : ℕ → Bool) → ((i : ℕ) → i < width → u i ≡ v i) → (i : ℕ) → lit_column width u i ≡ lit_column width v i
column_congr width u v same i = go (lt_or_ge i width)
  where
    go : (i < width) ⊎ (width ≤ i) → lit_column width u i ≡ lit_column width v i
    go (inl h) = ap (λ (b : Bool). ltb i width && not b) (same i h)
    go (inr h) = rw (le-ltb i width h)

pub map_congr : (width : ℕ) (u v : ℕ → Bool) → ((i : ℕ) → i < width → u i ≡ v i) → map_row width u ≡ map_row width v
unfolding map_row
map_congr width u v same =
    same_table (map_word width u) (map_word width v) 0 0 row_words
    (λ k h. word_congr _ _ (λ b l. column_congr width u v same (64 * (0 + k) + b)))

-- ---- tallies and searches over two ranges of one length

pub tally_same : (f g : ℕ → Bool) (a b n : ℕ) → ((i : ℕ) → i < n → f (a + i) ≡ g (b + i)) → tally f (range a n) ≡ tally g (range b n)
tally_same f g a b zero same = refl
tally_same f g a b (suc n) same =
    ap₂ add_if (ap f (sym (add-zero a)) ∙ same 0 (omega arith) ∙ ap g (add-zero b))
    (tally_same f g (suc a) (suc b) n (λ i h. ap f (omega arith) ∙ same (suc i) (omega arith) ∙ ap g (omega arith)))

pub first_same : (f g : ℕ → Bool) (a b n : ℕ) → ((i : ℕ) → i < n → f (a + i) ≡ g (b + i)) → a + first_of g b n ≡ b + first_of f a n
first_same f g a b zero same = omega arith
first_same f g a b (suc n) same =
    go (f a) (g b) (ap f (sym (add-zero a)) ∙ same 0 (omega arith) ∙ ap g (add-zero b))
    (first_same f g (suc a) (suc b) n (λ i h. ap f (omega arith) ∙ same (suc i) (omega arith) ∙ ap g (omega arith)))
  where
    go : (s t : Bool) → s ≡ t → suc a + first_of g (suc b) n ≡ suc b + first_of f (suc a) n → a + cond t b (first_of g (suc b) n) ≡ b + cond s a (first_of f (suc a) n)
    go true true e h = omega arith
    go true false e h = absurd (subst T e tt)
    go false true e h = absurd (subst T (sym e) tt)
    go false false e h = omega arith

-- a tally of which only the first w can count
tally_cut :
    (f g : ℕ → Bool) (a w n : ℕ) → w ≤ n → ((i : ℕ) → i < w → f (a + i) ≡ g (a + i)) → ((i : ℕ) → w ≤ i → i < n → f (a + i) ≡ false) →
    tally f (range a n) ≡ tally g (range a w)
tally_cut f g a w n h same none =
    let e : w + (n - w) ≡ n = omega arith in
    ap (λ (m : ℕ). tally f (range a m)) (sym e)
    ∙ ap (tally f) (range_append a w (n - w))
    ∙ tally_append f (range a w) (range (a + w) (n - w))
    ∙ ap₂ ◌+◌ (tally_same f g a a w same) (tally_same f (λ (i : ℕ). false) (a + w) 0 (n - w) (λ i l. ap f (omega arith) ∙ none (w + i) (omega arith) (omega arith)) ∙ clear 0 (n - w))
    ∙ add-zero (tally g (range a w))
  where
    clear : (b m : ℕ) → tally (λ (i : ℕ). false) (range b m) ≡ 0
    clear b zero = refl
    clear b (suc m) = clear (suc b) m

-- ---- the answers on a row of a map

module _ (width : ℕ) (fits : width ≤ row_bits) (unlit : ℕ → Bool) where
  inside : (i : ℕ) → i < width → lit_at (map_row width unlit) i ≡ not (unlit i)
  inside i h = map_bit width unlit i (omega arith) ∙ ap (λ (b : Bool). b && not (unlit i)) (lt-ltb i width h)

  beyond : (i : ℕ) → width ≤ i → i < row_bits → lit_at (map_row width unlit) i ≡ false
  beyond i h l = map_bit width unlit i l ∙ ap (λ (b : Bool). b && not (unlit i)) (le-ltb i width h)

  pub map_tally : tally (lit_at (map_row width unlit)) (range 0 row_bits) ≡ tally (λ (i : ℕ). not (unlit i)) (range 0 width)
  map_tally =
      tally_cut (lit_at (map_row width unlit)) (λ (i : ℕ). not (unlit i)) 0 width row_bits fits
      (λ i h. rw (zero-add i) (inside i h)) (λ i h l. rw (zero-add i) (beyond i h l))

  pub map_first : first_of (λ (i : ℕ). not (lit_at (map_row width unlit) i)) 0 width ≡ first_of unlit 0 width
  map_first =
      sym (zero-add _)
      ∙ first_same unlit (λ (i : ℕ). not (lit_at (map_row width unlit) i)) 0 0 width
      (λ i h. rw (zero-add i) (sym (ap not (inside i h) ∙ not-not (unlit i))))
      ∙ zero-add _
