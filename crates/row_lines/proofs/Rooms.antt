-- The line's buffer has room for every line.
use mathlib.Core.List.{List, [], ◌∷◌}
use Prim.Native.Nat.{ℕ, zero, suc, ◌*◌, ◌≤◌, ◌<◌}
use native.Mathlib.Nat.{mul-suc}
use native.Mathlib.Omega.{arith}
use lib.ListN.{length, get_or, length-append}
use mir.Syntax.{w16}
use mir.Val.{Fits}
use Rattle.text.specs.Text.{ascii, spaced}
use Rattle.text.proofs.Lengths.{spaced_length}
use Rattle.numerals.specs.Listing.{each, word_digits, spaced_word}
use Rattle.model.specs.Row.{used_pairs}
use Rattle.numerals.proofs.Digits.{word_length}

-- texts of at most so many bytes each
each_length :
    (text : ℕ → List ℕ) (most : ℕ) (ns : List ℕ) →
    ((i : ℕ) → length (text (get_or ns i 0)) ≤ most) →
    length (each text ns) ≤ most * length ns
unfolding each
each_length text most [] h = omega arith
each_length text most (n ∷ ns) h =
    omega (
      arith,
      length-append (text n) (each text ns),
      h 0,
      each_length text most ns (λ (i : ℕ). h (suc i)),
      mul-suc most (length ns),
    )

pub numbers_length : (ns : List ℕ) → ((i : ℕ) → Fits w16 (get_or ns i 0)) → length (each spaced ns) ≤ 11 * length ns
numbers_length ns few = each_length spaced 11 ns (λ (i : ℕ). spaced_length (get_or ns i 0) (omega (arith, (few i).fits)))

spaced_word_length : (word : ℕ) → length (spaced_word word) ≤ 17
unfolding spaced_word
spaced_word_length word = omega (arith, length-append (ascii " ") (word_digits word), word_length word)

pub words_length : (words : List ℕ) → length (each spaced_word words) ≤ 17 * length words
words_length words = each_length spaced_word 17 words (λ (i : ℕ). spaced_word_length (get_or words i 0))

-- the used pairs of a row are some of its numbers
pub used_text_length : (row : List ℕ) → ((i : ℕ) → get_or row i 0 < 65536) → length (each spaced (used_pairs row)) ≤ 11 * length row
unfolding used_pairs each
used_text_length [] few = omega arith
used_text_length (offset ∷ []) few = omega arith
used_text_length (offset ∷ zero ∷ row) few = omega arith
used_text_length (offset ∷ suc n ∷ row) few =
    simp length-append
    (omega (
      arith,
      spaced_length offset (omega (arith, few 0)),
      spaced_length (suc n) (omega (arith, few 1)),
      used_text_length row (λ (i : ℕ). few (suc (suc i))),
    ))
