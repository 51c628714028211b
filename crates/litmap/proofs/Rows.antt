-- A row of four words: its lit cells word by word, and its first unlit column.
use mathlib.Core.Path.{◌≡◌, refl, sym, ap, ap₂, ◌∙◌}
use mathlib.Core.Logic.{◌⊎◌, inl, inr}
use mathlib.Core.Bool.{Bool, true, false, cond, not}
use mathlib.Core.List.{List, [], ◌∷◌}
use Prim.Native.Nat.{ℕ, zero, suc, ◌+◌, ◌*◌, ◌-◌, ◌/◌, ◌≤◌, ◌<◌, min}
use native.Mathlib.Nat.{add-suc, suc-add, add-zero, zero-add}
use native.Mathlib.Omega.{arith}
use lib.ListN.{length, get_or, take, drop, length-take}
use Rattle.std.proofs.lemmas.List.{get_or_past}
use borrow.Author.Tests.{le-leb, lt-leb}
use Rattle.model.specs.Lists.{range, tally}
use Rattle.model.specs.Map.{first_of, bit_of, lit_at, words_of, inside_map, lit_cells, first_unlit}
use Rattle.model.proofs.Tests.{lt_or_ge}
use Rattle.model.proofs.Ranges.{range_append}
use Rattle.model.proofs.Totals.{tally_append}
use Rattle.model.proofs.LitMap.{lit_in_word, tally_same, first_same}
use Rattle.litmap.proofs.Bits.{OnesIs, ClearIs}

-- ---- sums and firsts over two ranges, one after the other
tally_split : (f : ℕ → Bool) (a m n : ℕ) → tally f (range a (m + n)) ≡ tally f (range a m) + tally f (range (a + m) n)
tally_split f a m n = ap (tally f) (range_append a m n) ∙ tally_append f (range a m) (range (a + m) n)

first_from : (f : ℕ → Bool) (a n : ℕ) → a ≤ first_of f a n
first_from f a zero = omega arith
first_from f a (suc n) = go (f a) (first_from f (suc a) n)
  where
    go : (b : Bool) → suc a ≤ first_of f (suc a) n → a ≤ cond b a (first_of f (suc a) n)
    go true h = omega arith
    go false h = omega arith

-- one that is found within the first range, and none
first_stops : (f : ℕ → Bool) (a m n : ℕ) → first_of f a m < a + m → first_of f a (m + n) ≡ first_of f a m
first_stops f a zero n h = absurd (omega arith)
first_stops f a (suc m) n h = rw (suc-add m n) (go (f a) h (first_stops f (suc a) m n))
  where
    go : (b : Bool) → cond b a (first_of f (suc a) m) < a + suc m → (first_of f (suc a) m < suc a + m → first_of f (suc a) (m + n) ≡ first_of f (suc a) m)
        → cond b a (first_of f (suc a) (m + n)) ≡ cond b a (first_of f (suc a) m)
    go true h ih = refl
    go false h ih = ih (omega arith)

first_goes : (f : ℕ → Bool) (a m n : ℕ) → a + m ≤ first_of f a m → first_of f a (m + n) ≡ first_of f (a + m) n
first_goes f a zero n h = rw (zero-add n, add-zero a)
first_goes f a (suc m) n h = rw (suc-add m n) (go (f a) h (first_goes f (suc a) m n))
  where
    go : (b : Bool) → a + suc m ≤ cond b a (first_of f (suc a) m) → (suc a + m ≤ first_of f (suc a) m → first_of f (suc a) (m + n) ≡ first_of f (suc a + m) n)
        → cond b a (first_of f (suc a) (m + n)) ≡ first_of f (a + suc m) n
    go true h ih = absurd (omega arith)
    go false h ih = ih (omega arith) ∙ ap (λ (k : ℕ). first_of f k n) (suc-add a m ∙ sym (add-suc a m))

-- ---- a word of the row
word_tally : (ws : List ℕ) (k : ℕ) → tally (lit_at ws) (range (64 * k) 64) ≡ tally (bit_of (get_or ws k 0)) (range 0 64)
word_tally ws k = tally_same (lit_at ws) (bit_of (get_or ws k 0)) (64 * k) 0 64 (λ i h. lit_in_word ws k i h ∙ ap (bit_of (get_or ws k 0)) (sym (zero-add i)))

word_first : (ws : List ℕ) (k : ℕ) → first_of (λ (i : ℕ). not (lit_at ws i)) (64 * k) 64 ≡ 64 * k + first_of (λ (b : ℕ). not (bit_of (get_or ws k 0) b)) 0 64
word_first ws k =
    sym (first_same (λ (i : ℕ). not (lit_at ws i)) (λ (b : ℕ). not (bit_of (get_or ws k 0) b)) (64 * k) 0 64
    (λ i h. ap not (lit_in_word ws k i h ∙ ap (bit_of (get_or ws k 0)) (sym (zero-add i)))) ∙ zero-add _)

-- ---- the lit cells of a row's words, word after word
pub record OnesTo (ws : List ℕ) (k ones : ℕ) : Type 0 where
  pub is : ones ≡ tally (lit_at ws) (range 0 (64 * k))
  pub few : ones ≤ 64 * k

pub ones_start : (ws : List ℕ) → OnesTo ws 0 0
ones_start ws = record { is = refl; few = omega arith }

pub ones_go : {ws : List ℕ} {k before r : ℕ} → OnesTo ws k before → OnesIs (get_or ws k 0) r → OnesTo ws (k + 1) (before + r)
ones_go {ws} {k} {before} {r} inv p =
    let e : 64 * (k + 1) ≡ 64 * k + 64 = omega arith in
    let z : 0 + 64 * k ≡ 64 * k = omega arith in
    record {
      is =
          ap₂ ◌+◌ inv.is (p.is ∙ sym (word_tally ws k) ∙ ap (λ (n : ℕ). tally (lit_at ws) (range n 64)) (sym z))
          ∙ sym (tally_split (lit_at ws) 0 (64 * k) 64)
          ∙ ap (λ (n : ℕ). tally (lit_at ws) (range 0 n)) (sym e);
      few = omega (arith, inv.few, p.few);
    }

-- ---- the first unlit column of a row's words: none is clear before word k
abbrev unlit : List ℕ → ℕ → Bool
unlit ws i = not (lit_at ws i)

pub record ClearTo (ws : List ℕ) (k column : ℕ) : Type 0 where
  pub is : column ≡ 64 * k
  pub none : (n : ℕ) → first_of (unlit ws) 0 (64 * k + n) ≡ first_of (unlit ws) (64 * k) n

pub clear_start : (ws : List ℕ) → ClearTo ws 0 0
clear_start ws = record { is = refl; none = λ n. ap (first_of (unlit ws) 0) (zero-add n) }

module _ {ws : List ℕ} {k column r : ℕ} (inv : ClearTo ws k column) (p : ClearIs (get_or ws k 0) r) where
  pub clear_go : 64 ≤ r → ClearTo ws (k + 1) (column + r)
  clear_go h =
      let e : 64 * (k + 1) ≡ 64 * k + 64 = omega arith in
      record {
        is = omega (arith, inv.is, p.few);
        none = λ n.
            ap (first_of (unlit ws) 0) (let f : 64 * (k + 1) + n ≡ 64 * k + (64 + n) = omega arith in f)
            ∙ inv.none (64 + n)
            ∙ first_goes (unlit ws) (64 * k) 64 n (omega (arith, word_first ws k, p.is))
            ∙ ap (λ (m : ℕ). first_of (unlit ws) m n) (sym e);
      }

  pub clear_found : k < 4 → r < 64 → column + r ≡ first_of (unlit ws) 0 256
  clear_found b h =
      let n : ℕ = 256 - 64 * (k + 1) in
      let e : 256 ≡ 64 * k + (64 + n) = omega arith in
      let found : first_of (unlit ws) (64 * k) 64 ≡ 64 * k + r = word_first ws k ∙ ap (λ (m : ℕ). 64 * k + m) (sym p.is) in
      ap (λ (m : ℕ). m + r) inv.is
      ∙ sym (ap (first_of (unlit ws) 0) e ∙ inv.none (64 + n) ∙ first_stops (unlit ws) (64 * k) 64 n (omega arith) ∙ found)

pub clear_end : {ws : List ℕ} {k column : ℕ} → ClearTo ws k column → k ≡ 4 → column ≡ first_of (unlit ws) 0 256
clear_end {ws} {k} {column} inv e = inv.is ∙ rw e (sym (rw e at (inv.none 0)))

-- ---- the 256 columns of a row are four times 64

-- its lit cells are those of its four words together. The code adds them word after word, so that no proof cites this; it is the sum that `ones_go` comes to
pub row_sum : (ws : List ℕ) →
    tally (lit_at ws) (range 0 256)
    ≡ tally (bit_of (get_or ws 0 0)) (range 0 64) + tally (bit_of (get_or ws 1 0)) (range 0 64) + tally (bit_of (get_or ws 2 0)) (range 0 64) + tally (bit_of (get_or ws 3 0)) (range 0 64)
row_sum ws =
    let a = tally_split (lit_at ws) 0 64 192 in
    let b = tally_split (lit_at ws) 64 64 128 in
    let c = tally_split (lit_at ws) 128 64 64 in
    omega (arith, word_tally ws 0, word_tally ws 1, word_tally ws 2, word_tally ws 3)

-- its first unlit column, where the words before the one that has it are full: told of the four words of a row one by one. The code goes from word to word, as
-- `clear_go` and `clear_found` say, so that no proof cites these either
module _ (ws : List ℕ) where
  -- the first clear bit of word k
  abbrev clear : ℕ → ℕ
  clear k = first_of (λ (b : ℕ). not (bit_of (get_or ws k 0) b)) 0 64

  abbrev whole : ℕ
  whole = first_of (unlit ws) 0 256

  in_first : clear 0 < 64 → clear 0 ≡ whole
  in_first h =
      let e : first_of (unlit ws) 0 64 ≡ clear 0 = word_first ws 0 ∙ zero-add _ in
      sym (first_stops (unlit ws) 0 64 192 (omega arith) ∙ e)

  not_first : 64 ≤ clear 0 → whole ≡ first_of (unlit ws) 64 192
  not_first h =
      let e : first_of (unlit ws) 0 64 ≡ clear 0 = word_first ws 0 ∙ zero-add _ in
      first_goes (unlit ws) 0 64 192 (omega arith)

  in_second : 64 ≤ clear 0 → clear 1 < 64 → 64 + clear 1 ≡ whole
  in_second h k = sym (not_first h ∙ first_stops (unlit ws) 64 64 128 (omega (arith, word_first ws 1)) ∙ word_first ws 1)

  not_second : 64 ≤ clear 0 → 64 ≤ clear 1 → whole ≡ first_of (unlit ws) 128 128
  not_second h k = not_first h ∙ first_goes (unlit ws) 64 64 128 (omega (arith, word_first ws 1))

  in_third : 64 ≤ clear 0 → 64 ≤ clear 1 → clear 2 < 64 → 128 + clear 2 ≡ whole
  in_third h k l = sym (not_second h k ∙ first_stops (unlit ws) 128 64 64 (omega (arith, word_first ws 2)) ∙ word_first ws 2)

  in_fourth : 64 ≤ clear 0 → 64 ≤ clear 1 → 64 ≤ clear 2 → 192 + clear 3 ≡ whole
  in_fourth h k l = sym (not_second h k ∙ first_goes (unlit ws) 128 64 64 (omega (arith, word_first ws 2)) ∙ word_first ws 3)

module _ (a b c d : ℕ) where
  abbrev row : List ℕ
  row = a ∷ b ∷ c ∷ d ∷ []

  abbrev found : ℕ
  found = first_of (λ (n : ℕ). not (lit_at row n)) 0 256

  pub found_1 : {i : ℕ} → ClearIs a i → i < 64 → i ≡ found
  found_1 p h = p.is ∙ in_first row (omega (arith, p.is))

  pub found_2 : {i j : ℕ} → ClearIs a i → 64 ≤ i → ClearIs b j → j < 64 → 64 + j ≡ found
  found_2 p h q m = ap (λ (n : ℕ). 64 + n) q.is ∙ in_second row (omega (arith, p.is)) (omega (arith, q.is))

  pub found_3 : {i j k : ℕ} → ClearIs a i → 64 ≤ i → ClearIs b j → 64 ≤ j → ClearIs c k → k < 64 → 128 + k ≡ found
  found_3 p h q m r n =
      ap (λ (n : ℕ). 128 + n) r.is ∙ in_third row (omega (arith, p.is)) (omega (arith, q.is)) (omega (arith, r.is))

  pub found_4 : {i j k l : ℕ} → ClearIs a i → 64 ≤ i → ClearIs b j → 64 ≤ j → ClearIs c k → 64 ≤ k → ClearIs d l → 192 + l ≡ found
  found_4 p h q m r n s =
      ap (λ (n : ℕ). 192 + n) s.is ∙ in_fourth row (omega (arith, p.is)) (omega (arith, q.is)) (omega (arith, r.is))

-- ---- the same for any width
first_upto : (f : ℕ → Bool) (a n : ℕ) → first_of f a n ≤ a + n
first_upto f a zero = omega arith
first_upto f a (suc n) = go (f a) (first_upto f (suc a) n)
  where
    go : (b : Bool) → first_of f (suc a) n ≤ suc a + n → cond b a (first_of f (suc a) n) ≤ a + suc n
    go true h = omega arith
    go false h = omega arith

-- where the column n passes, a search beyond it finds no more
first_width : (f : ℕ → Bool) (n w : ℕ) → f n ≡ true → first_of f 0 w ≡ min w (first_of f 0 n)
first_width f n w e = go (lt_or_ge n w)
  where
    short : w ≤ n → (first_of f 0 w < w) ⊎ (w ≤ first_of f 0 w) → first_of f 0 w ≡ min w (first_of f 0 n)
    short h (inl k) =
        let s : w + (n - w) ≡ n = omega arith in
        let g : first_of f 0 n ≡ first_of f 0 w = ap (first_of f 0) (sym s) ∙ first_stops f 0 w (n - w) (omega arith) in
        omega arith
    short h (inr k) =
        let s : w + (n - w) ≡ n = omega arith in
        let g : first_of f 0 n ≡ first_of f (0 + w) (n - w) = ap (first_of f 0) (sym s) ∙ first_goes f 0 w (n - w) (omega arith) in
        omega (arith, first_from f (0 + w) (n - w), first_upto f 0 w)

    long : n < w → (first_of f 0 n < n) ⊎ (n ≤ first_of f 0 n) → first_of f 0 w ≡ min w (first_of f 0 n)
    long h (inl k) =
        let s : n + (w - n) ≡ w = omega arith in
        let g : first_of f 0 w ≡ first_of f 0 n = ap (first_of f 0) (sym s) ∙ first_stops f 0 n (w - n) (omega arith) in
        omega arith
    long h (inr k) =
        let s : n + suc (w - n - 1) ≡ w = omega arith in
        let g : first_of f 0 w ≡ first_of f (0 + n) (suc (w - n - 1)) = ap (first_of f 0) (sym s) ∙ first_goes f 0 n (suc (w - n - 1)) (omega arith) in
        let z : 0 + n ≡ n = omega arith in
        let c : first_of f n (suc (w - n - 1)) ≡ n = ap (λ (b : Bool). cond b n (first_of f (suc n) (w - n - 1))) e in
        let t : first_of f 0 w ≡ n = g ∙ ap (λ (k : ℕ). first_of f k (suc (w - n - 1))) z ∙ c in
        omega (arith, first_upto f 0 n)

    go : (n < w) ⊎ (w ≤ n) → first_of f 0 w ≡ min w (first_of f 0 n)
    go (inl h) = long h (lt_or_ge (first_of f 0 n) n)
    go (inr h) = short h (lt_or_ge (first_of f 0 w) w)

any_width : (ws : List ℕ) (w : ℕ) → length ws ≤ 4 → first_of (unlit ws) 0 w ≡ min w (first_of (unlit ws) 0 256)
unfolding lit_at
any_width ws w h = first_width (unlit ws) 256 w (ap (λ (word : ℕ). not (bit_of word 0)) (get_or_past ws 4 0 h))

-- ---- the two answers of a row
outside : (lit : List ℕ) (j : ℕ) → length lit / 4 ≤ j → inside_map lit j ≡ false
outside lit j h = lt-leb (4 * (j + 1)) (length lit) (omega arith)

inside : (lit : List ℕ) (j : ℕ) → j < length lit / 4 → inside_map lit j ≡ true
inside lit j h = le-leb (4 * (j + 1)) (length lit) (omega arith)

pub no_cells : (lit : List ℕ) (j : ℕ) → length lit / 4 ≤ j → 0 ≡ lit_cells lit j
unfolding lit_cells
no_cells lit j h = rw (outside lit j h)

pub no_column : (lit : List ℕ) (w j : ℕ) → length lit / 4 ≤ j → 0 ≡ first_unlit lit w j
unfolding first_unlit
no_column lit w j h = rw (outside lit j h)

module _ (lit : List ℕ) (j : ℕ) (h : j < length lit / 4) (m : ℕ) (four : m ≡ 4) where
  abbrev words : List ℕ
  words = take m (drop (4 * j) lit)

  pub cells_of : {k ones : ℕ} → OnesTo words k ones → k ≡ 4 → ones ≡ lit_cells lit j
  unfolding lit_cells
  cells_of {k} {ones} inv e =
      rw (inside lit j h) (rw (four, e) at inv.is)

  pub column_of : (w n : ℕ) → n ≡ first_of (unlit words) 0 256 → min n w ≡ first_unlit lit w j
  unfolding first_unlit
  column_of w n e =
      let s : min n w ≡ min w n = omega arith in
      let all : n ≡ first_of (unlit (words_of lit j)) 0 256 = rw four at e in
      rw (inside lit j h) (s ∙ rw all (sym (any_width (words_of lit j) w (simp length-take (omega arith)))))
