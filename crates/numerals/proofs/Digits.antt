-- Hexadecimal digits, as the crate `hex` gives those of a word's bytes.
use Rattle.std.proofs.Common.{◌≡◌, ℕ, zero, suc, ◌^◌, ◌/◌, ◌%◌, List, [], ◌∷◌, ◌++◌, length, slice_index, refl, sym, ◌∙◌, ap, ap₂, arith, length-append}
use mathlib.Core.List.{append_assoc}
use native.Mathlib.Nat.{pow-succ', div-div-eq-div-mul}
use Rattle.std.specs.Int.{w64, to_be_bytes, bytes_high_first, byte_at}
use Rattle.hex.specs.Hex.{encode_with, encode_lower, lower_digits}
use Rattle.numerals.specs.Listing.{hex_digit, hex_digits, word_digits}

hexes_length : (k n : ℕ) → length (hex_digits k n) ≡ k
unfolding hex_digits
hexes_length zero n = refl
hexes_length (suc k) n = simp length-append (omega (arith, hexes_length k (n / 16)))

pub word_length : (word : ℕ) → length (word_digits word) ≡ 16
word_length word = hexes_length 16 word

-- a number's bytes are those of a 256th of it, and its last
byte_above : (k n : ℕ) → byte_at (suc k) n ≡ byte_at k (n / 256)
byte_above zero n = refl
byte_above (suc k) n = ap (λ m. m % 256) (ap (λ m. n / m) (pow-succ' 256 (suc k)) ∙ sym (div-div-eq-div-mul n 256 (256 ^ suc k)))

bytes_last : (k n : ℕ) → bytes_high_first (suc k) n ≡ bytes_high_first k (n / 256) ++ (n % 256 ∷ [])
bytes_last zero n = refl
bytes_last (suc k) n = ap₂ ◌∷◌ (byte_above k n) (bytes_last k n)

encoded_last : (bytes : List ℕ) (b : ℕ) → encode_lower (bytes ++ (b ∷ [])) ≡ encode_lower bytes ++ (hex_digit (b / 16) ∷ hex_digit (b % 16) ∷ [])
unfolding encode_with hex_digit
encoded_last [] b = refl
encoded_last (a ∷ bytes) b = ap (λ rest. slice_index lower_digits (a / 16) ∷ slice_index lower_digits (a % 16) ∷ rest) (encoded_last bytes b)

abbrev twice : ℕ → ℕ
twice zero = zero
twice (suc k) = suc (suc (twice k))

encoded : (k n : ℕ) → encode_lower (bytes_high_first k n) ≡ hex_digits (twice k) n
unfolding encode_with hex_digits
encoded zero n = refl
encoded (suc k) n =
    let high : n % 256 / 16 ≡ n / 16 % 16 = omega arith in
    let low : n % 256 % 16 ≡ n % 16 = omega arith in
    let front : n / 256 ≡ n / 16 / 16 = omega arith in
    ap encode_lower (bytes_last k n) ∙ encoded_last (bytes_high_first k (n / 256)) (n % 256)
    ∙ ap₂ ◌++◌ (encoded k (n / 256) ∙ ap (hex_digits (twice k)) front) (ap₂ (λ h l. hex_digit h ∷ hex_digit l ∷ []) high low)
    ∙ sym (append_assoc (hex_digits (twice k) (n / 16 / 16)) (hex_digit (n / 16 % 16) ∷ []) (hex_digit (n % 16) ∷ []))

pub encoded_word : (word : ℕ) → encode_lower (to_be_bytes w64 word) ≡ word_digits word
encoded_word word = encoded 8 word
