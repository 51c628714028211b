-- The words of a row of the lit map, under work.
use Rattle.std.specs.Prelude.{◌≡◌, Bool, List, ℕ, ◌<◌}
use Rattle.model.specs.Row.{after_span}
use Rattle.model.specs.Map.{map_row}

-- the words are those of a row of this width, for some set of unlit columns
pub record Words (width : ℕ) (words : List ℕ) : Type 0 where
  pub unlit : ℕ → Bool
  pub words_are : words ≡ map_row width unlit

-- The words after a span is lit whose columns are all below the row's width, whatever that is: any four words are those of a row of 256 columns.
abbrev pub Lights : ℕ → ℕ → List ℕ → List ℕ → Type 0
Lights first last words words' =
    (width : ℕ) (unlit : ℕ → Bool) → last < width → words ≡ map_row width unlit → words' ≡ map_row width (after_span unlit first last)

-- the words after any span is lit in a row of this width
abbrev pub LightsBelow : ℕ → ℕ → ℕ → List ℕ → List ℕ → Type 0
LightsBelow width first last words words' =
    (unlit : ℕ → Bool) → words ≡ map_row width unlit → words' ≡ map_row width (after_span unlit first last)
