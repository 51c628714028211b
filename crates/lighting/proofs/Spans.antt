-- A span's bits in a word, and the span lit word after word.
use mathlib.Core.Path.{◌≡◌, refl, sym, ap, ap₂, ◌∙◌}
use mathlib.Core.Logic.{◌⊎◌, inl, inr}
use mathlib.Core.Bool.{Bool, true, false, not, ◌&&◌, ◌||◌, and-true, and-false, or-true, or-false}
use mathlib.Core.List.{List}
use Prim.Native.Nat.{ℕ, zero, suc, ◌+◌, ◌-◌, ◌*◌, ◌/◌, ◌%◌, ◌^◌, ◌≤◌, ◌<◌, min}
use native.Mathlib.Nat.{mul-suc, mul_comm}
use native.Mathlib.Omega.{arith}
use lib.Dec.{eqb, leb, ltb}
use lib.ListN.{length, get_or, set, length-set}
use lib.Seq.{ext_get_or, get_or-set_same, get_or-set_other}
use lib.Pow.{pow_pos, pow-lt, pow_mono, ones_split, high, low, ones_lt}
use lib.Bits.{bit_and, bit_or, and_lt, or_lt}
use borrow.Author.Tests.{lt-ltb, le-ltb, le-leb, leb-true, eqb-true, eqb-false}
use Rattle.model.specs.Row.{after_span}
use Rattle.model.specs.Map.{word_of, lit_column, map_word, map_row}
use Rattle.segments.specs.Columns.{in_span}
use Rattle.model.proofs.Tests.{lt_or_ge, both_true}
use Rattle.model.proofs.Bits.{word_bit, word_small, word_congr, word_is}
use Rattle.model.proofs.LitMap.{map_length, map_word_lem, map_congr}
use Rattle.segments.proofs.Tests.{same_le}
use Rattle.segments.proofs.Cut.{span_ahead, span_behind}
use Rattle.lighting.specs.Words.{Lights, LightsBelow}
use Rattle.lighting.proofs.Bits.{bit_or_lem, bit_and_lem, bit_block}

-- ---- all ones, shifted

abbrev all : ℕ
all = 18446744073709551615

ones_up : (s : ℕ) → s < 64 → (all * 2 ^ s) % 2 ^ 64 ≡ 2 ^ 64 - 2 ^ s
ones_up s h =
    let l : 2 ^ s < 2 ^ 64 = pow-lt {i = s} {j = 64} h in
    ap (λ (n : ℕ). n % 2 ^ 64) (parts all (2 ^ s) (pow_pos s) (omega arith)) ∙ low (2 ^ s - 1) 64 (omega (arith, pow_pos s))
  where
    parts : (a q : ℕ) → 0 < q → q ≤ suc a → a * q ≡ (q - 1) * suc a + (suc a - q)
    parts a zero p h = absurd (omega arith)
    parts a (suc m) p h = let e : suc m - 1 ≡ m = omega arith in rw e (omega (arith, mul-suc a m, mul-suc m a, mul_comm a m))

ones_down : (t : ℕ) → t ≤ 63 → all / 2 ^ (63 - t) ≡ 2 ^ suc t - 2 ^ 0
ones_down t h =
    let e : suc t + (63 - t) ≡ 64 = omega arith in
    ap (λ (n : ℕ). (2 ^ n - 1) / 2 ^ (63 - t)) (sym e)
    ∙ ap (λ (n : ℕ). n / 2 ^ (63 - t)) (ones_split (suc t) (63 - t))
    ∙ high (2 ^ suc t - 1) (63 - t) (ones_lt (63 - t))

-- ---- the bits of a span in a word that it meets

module _ (base first last : ℕ) (meets : base ≤ last) (h : first < base + 64) {low high : ℕ} (lo : low ≡ first - base) (hi : high ≡ min (last - base) 63) where
  span_bit : (b : ℕ) → b < 64 → ((leb low b && ltb b 64) && (leb 0 b && ltb b (suc high))) ≡ in_span first last (base + b)
  span_bit b k =
      rw (lt-ltb b 64 k, and-true, le-leb 0 b (omega arith))
      (ap₂ ◌&&◌ (same_le low b first (base + b) (λ l. omega arith) (λ l. omega arith))
      (same_le (suc b) (suc high) (base + b) last (λ l. omega arith) (λ l. omega arith)))

  pub span_word : bit_and ((all * 2 ^ low) % 2 ^ 64) (all / 2 ^ (63 - high)) ≡ word_of (λ (b : ℕ). in_span first last (base + b))
  span_word =
      let u : 2 ^ 64 - 2 ^ low < 2 ^ 64 = omega (arith, pow_pos low) in
      let d : 2 ^ suc high - 2 ^ 0 < 2 ^ 64 = omega (arith, pow_mono {i = suc high} {j = 64} (omega arith), pow_pos (suc high)) in
      ap₂ bit_and (ones_up low (omega arith)) (ones_down high (omega arith))
      ∙ word_is _ (and_lt 64 _ _ u d) (λ (b : ℕ). in_span first last (base + b))
      (λ b k.
      bit_and_lem (2 ^ 64 - 2 ^ low) (2 ^ suc high - 2 ^ 0) b
      ∙ ap₂ ◌&&◌ (bit_block low 64 b (omega arith)) (bit_block 0 (suc high) b (omega arith))
      ∙ span_bit b k)

-- ---- word after word: the span's columns in the words before word k are lit

abbrev lit_before : ℕ → ℕ → ℕ → (ℕ → Bool) → ℕ → Bool
lit_before first last k unlit i = unlit i && not (in_span first last i && ltb i (64 * k))

pub record LitUpTo (first last : ℕ) (words₀ words : List ℕ) (k : ℕ) : Type 0 where
  pub reached : first < 64 * (k + 1)
  pub lit : (width : ℕ) (unlit : ℕ → Bool) → last < width → words₀ ≡ map_row width unlit → words ≡ map_row width (lit_before first last k unlit)

module _ (first last : ℕ) where
  pub light_starts : {words : List ℕ} (k : ℕ) → k ≡ first / 64 → LitUpTo first last words words k
  light_starts k h =
      record {
        reached = omega arith;
        lit = λ width unlit l e. e ∙ map_congr width _ _ (λ i b. sym (go unlit i (lt_or_ge i (64 * k))));
      }
    where
      go : (unlit : ℕ → Bool) (i : ℕ) → (i < 64 * k) ⊎ (64 * k ≤ i) → lit_before first last k unlit i ≡ unlit i
      go unlit i (inl b) = rw (span_ahead first last i (omega arith)) (and-true (unlit i))
      go unlit i (inr b) = rw (le-ltb i (64 * k) b, and-false (in_span first last i)) (and-true (unlit i))

  pub light_ends : {words₀ words : List ℕ} (k : ℕ) → last < 64 * k → LitUpTo first last words₀ words k → Lights first last words₀ words
  light_ends k h inv width unlit l e = inv.lit width unlit l e ∙ map_congr width _ _ (λ i b. go i (lt_or_ge i (64 * k)))
    where
      go : (i : ℕ) → (i < 64 * k) ⊎ (64 * k ≤ i) → lit_before first last k unlit i ≡ after_span unlit first last i
      go i (inl b) = rw (lt-ltb i (64 * k) b, and-true (in_span first last i))
      go i (inr b) = rw (span_behind first last i (omega arith))

  -- a column of word k, and one of another word
  module _ (width : ℕ) (unlit : ℕ → Bool) (l : last < width) (k : ℕ) where
    here : (i : ℕ) → 64 * k ≤ i → i < 64 * (k + 1) →
        (lit_column width (lit_before first last k unlit) i || in_span first last i) ≡ lit_column width (lit_before first last (k + 1) unlit) i
    here i a b = rw (le-ltb i (64 * k) a, lt-ltb i (64 * (k + 1)) b) (go (in_span first last i) refl)
      where
        go : (t : Bool) → in_span first last i ≡ t → ((ltb i width && not (unlit i && not (t && false))) || t) ≡ (ltb i width && not (unlit i && not (t && true)))
        go true e =
            let c : i ≤ last = leb-true i last (both_true (leb first i) (leb i last) e).1 in
            rw (lt-ltb i width (omega arith), and-false (unlit i)) (or-true (not (unlit i && true)))
        go false e = or-false (ltb i width && not (unlit i && true))

    elsewhere : (m b : ℕ) → b < 64 → ((m ≡ k) → ⊥) →
        lit_column width (lit_before first last k unlit) (64 * m + b) ≡ lit_column width (lit_before first last (k + 1) unlit) (64 * m + b)
    elsewhere m b h n =
        ap (λ (t : Bool). ltb (64 * m + b) width && not (unlit (64 * m + b) && not (in_span first last (64 * m + b) && t)))
        (same_le (suc (64 * m + b)) (64 * k) (suc (64 * m + b)) (64 * (k + 1)) (λ q. omega arith) (λ q. omega_other m k b h n q))
      where
        omega_other : (m k b : ℕ) → b < 64 → ((m ≡ k) → ⊥) → suc (64 * m + b) ≤ 64 * (k + 1) → suc (64 * m + b) ≤ 64 * k
        omega_other m k b h n q = omega (arith, n)

    abbrev old : ℕ → Bool
    old b = lit_column width (lit_before first last k unlit) (64 * k + b)

    abbrev spanned : ℕ → Bool
    spanned b = in_span first last (64 * k + b)

    joined : bit_or (word_of old) (word_of spanned) ≡ map_word width (lit_before first last (k + 1) unlit) k
    joined =
        word_is _ (or_lt 64 _ _ (word_small old) (word_small spanned)) _
        (λ b h.
        bit_or_lem (word_of old) (word_of spanned) b
        ∙ ap₂ ◌||◌ (word_bit old b h) (word_bit spanned b h)
        ∙ here (64 * k + b) (omega arith) (omega arith))

    -- the words with word k changed
    module _
        {words : List ℕ} {bits : ℕ} (h : k < 4) (e : bits ≡ word_of (λ (b : ℕ). in_span first last (64 * k + b)))
        (now_is : words ≡ map_row width (lit_before first last k unlit))
      where
        abbrev after : List ℕ
        after = set words k (bit_or (get_or words k 0) bits)

        long : length words ≡ 4
        long = ap length now_is ∙ map_length width (lit_before first last k unlit)

        word : (m : ℕ) → m < 4 → get_or words m 0 ≡ map_word width (lit_before first last k unlit) m
        word m b = ap (λ (ws : List ℕ). get_or ws m 0) now_is ∙ map_word_lem width (lit_before first last k unlit) m b

        word_after : (m : ℕ) → m < 4 → (t : Bool) → eqb m k ≡ t → get_or after m 0 ≡ map_word width (lit_before first last (k + 1) unlit) m
        word_after m b true q =
            let s : m ≡ k = eqb-true m k q in
            ap (λ (n : ℕ). get_or after n 0) s
            ∙ get_or-set_same words k _ 0 (omega (arith, long))
            ∙ ap₂ bit_or (word k h) e
            ∙ joined
            ∙ ap (map_word width (lit_before first last (k + 1) unlit)) (sym s)
        word_after m b false q =
            let n = eqb-false m k q in
            get_or-set_other words k m _ 0 n ∙ word m b ∙ word_congr _ _ (λ i c. elsewhere m i c n)

        words_after : after ≡ map_row width (lit_before first last (k + 1) unlit)
        words_after =
            ext_get_or 0 after (map_row width (lit_before first last (k + 1) unlit))
            (length-set words k _ ∙ long ∙ sym (map_length width (lit_before first last (k + 1) unlit)))
            (λ m b.
            let f : m < 4 = omega (arith, length-set words k (bit_or (get_or words k 0) bits), long) in
            word_after m f (eqb m k) refl ∙ sym (map_word_lem width (lit_before first last (k + 1) unlit) m f))

  pub light_goes :
      {words₀ words : List ℕ} (k : ℕ) {bits : ℕ} → k < 4 → bits ≡ word_of (λ (b : ℕ). in_span first last (64 * k + b)) →
      LitUpTo first last words₀ words k → LitUpTo first last words₀ (set words k (bit_or (get_or words k 0) bits)) (k + 1)
  light_goes k h e inv =
      record {
        reached = omega (arith, inv.reached);
        lit = λ width unlit l start. words_after width unlit l k h e (inv.lit width unlit l start);
      }

-- ---- a span of a row, below the width

module _ (width first last : ℕ) {words : List ℕ} where
  -- it has no column there
  pub lights_none : min (last + 1) width ≤ first → LightsBelow width first last words words
  lights_none h unlit e = e ∙ map_congr width _ _ (λ i b. sym (rw (none i b (lt_or_ge i first)) (and-true (unlit i))))
    where
      none : (i : ℕ) → i < width → (i < first) ⊎ (first ≤ i) → in_span first last i ≡ false
      none i b (inl a) = span_ahead first last i a
      none i b (inr a) = span_behind first last i (omega arith)

  -- its last column there is `end`
  pub lights_within : {words' : List ℕ} (end : ℕ) → end + 1 ≡ min (last + 1) width → Lights first end words words' → LightsBelow width first last words words'
  lights_within end w lit unlit e =
      lit width unlit (omega arith) e
      ∙ map_congr width _ _ (λ i b. ap (λ (t : Bool). unlit i && not (leb first i && t)) (same_le i end i last (λ a. omega arith) (λ a. omega arith)))
