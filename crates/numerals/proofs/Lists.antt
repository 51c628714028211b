-- The texts of items, one after the other.
use Rattle.std.proofs.Common.{◌≡◌, ℕ, ◌+◌, ◌≤◌, ◌<◌, List, [], ◌++◌, length, drop, get_or, ap, drop_of_length-le}
use Rattle.std.proofs.lemmas.List.{drop_more}
use Rattle.numerals.specs.Listing.{each}

-- one item's text, and those after it
pub each_from :
    {A : Type 0} (text : A → List ℕ) (xs : List A) (i : ℕ) (d : A) →
    i < length xs →
    each text (drop i xs) ≡ text (get_or xs i d) ++ each text (drop (i + 1) xs)
unfolding each
each_from text xs i d h = ap (each text) (drop_more xs i d h)

-- when the items are passed, no text is left
pub each_none : {A : Type 0} (text : A → List ℕ) (xs : List A) (i : ℕ) → length xs ≤ i → each text (drop i xs) ≡ []
unfolding each
each_none text xs i h = ap (each text) (drop_of_length-le xs h)
