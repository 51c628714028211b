-- Words, decimal numbers and lines, as bytes.
use Rattle.std.specs.Prelude.{cond, List, [], ◌∷◌, ◌++◌, ℕ, zero, suc, ◌+◌, ◌/◌, ◌%◌, ltb}
use Prim.Native.Char.{code}
use Prim.Native.String.{String, [] as []ₛ, ◌∷◌ as ◌∷ₛ◌}

-- the bytes of a text of ASCII characters: each one's code
abbrev pub ascii : String → List ℕ
ascii []ₛ = []
ascii (c ∷ₛ s) = code c ∷ ascii s

-- the byte of a digit from 0 to 9
abbrev pub digit : ℕ → ℕ
digit d = 48 + d

-- the digits of n, the first one first, if they are at most k
unfoldable pub digits_within : ℕ → ℕ → List ℕ
digits_within zero n = []
digits_within (suc k) n = cond (ltb n 10) (digit n ∷ []) (digits_within k (n / 10) ++ (digit (n % 10) ∷ []))

-- a decimal number without leading zeros: n has at most n + 1 digits
unfoldable pub decimal : ℕ → List ℕ
decimal n = digits_within (suc n) n

-- a number after a space
unfoldable pub spaced : ℕ → List ℕ
spaced n = ascii " " ++ decimal n

-- the rest of a line after its name: each number after a space, and a newline
unfoldable pub numbers : List ℕ → List ℕ
numbers [] = ascii "\n"
numbers (n ∷ ns) = spaced n ++ numbers ns

-- a line: a name and numbers
unfoldable pub line : List ℕ → List ℕ → List ℕ
line name ns = name ++ numbers ns
