-- Tests and counts over lists, for the definitions of this folder.
use Rattle.std.specs.Prelude.{Bool, true, false, ◌&&◌, ◌||◌, List, [], ◌∷◌, ℕ, zero, suc, eqb}

-- the test passes at every element
abbrev pub every {ℓ} : {A : Type ℓ} → (A → Bool) → List A → Bool
every test [] = true
every test (a ∷ rest) = test a && every test rest

-- the test passes at one element or more
abbrev pub any {ℓ} : {A : Type ℓ} → (A → Bool) → List A → Bool
any test [] = false
any test (a ∷ rest) = test a || any test rest

-- the `count` numbers from `first` on
abbrev pub range : ℕ → ℕ → List ℕ
range first zero = []
range first (suc count) = first ∷ range (suc first) count

-- one more where the test passed
abbrev pub add_if : Bool → ℕ → ℕ
add_if true n = suc n
add_if false n = n

-- how many elements pass the test
abbrev pub tally {ℓ} : {A : Type ℓ} → (A → Bool) → List A → ℕ
tally test [] = 0
tally test (a ∷ rest) = add_if (test a) (tally test rest)

-- how often a number stands in a list
abbrev pub occurrences : ℕ → List ℕ → ℕ
occurrences n = tally (λ (k : ℕ). eqb k n)
