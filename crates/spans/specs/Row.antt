-- The span of a row in which some edge functions are above 0.
use Rattle.std.specs.Prelude.{◌≡◌, Bool, false, ◌&&◌, List, ℕ, ◌≤◌, ℤ, pos}
use Rattle.std.specs.Int.Signed.{lt_z}
use Rattle.std.specs.List.{All}
use Rattle.model.specs.Lists.{every}
use Rattle.geometry.specs.declared.EdgeFunction.{EdgeFunction}
use Rattle.geometry.specs.Raster.{FunctionBounded}
use Rattle.spans.specs.declared.Span.{Span}
use Rattle.spans.specs.Span.{covers, number_at}

-- each of some functions is within its bounds
abbrev pub FunctionRun : List EdgeFunction → Type 0
FunctionRun fs = All FunctionBounded fs

-- ---- a row
-- the number at column i of row j: start + j · drop at column 0
abbrev pub number_in : EdgeFunction → ℕ → ℕ → ℤ
number_in f i j = number_at f.slope (number_at f.drop f.start j) i

-- each function is above 0 there
unfoldable pub all_above : List EdgeFunction → ℕ → ℕ → Bool
all_above fs i j = every (λ (f : EdgeFunction). lt_z (pos 0) (number_in f i j)) fs

-- Document 01: "Each patch gives at most one span of columns a row." Column i is in the span exactly when it is in `within` and each function is above 0 there, in row j. The columns of
-- `lit` are left free, and of them `limited` alone holds: whoever asks knows that they are lit already (`LitGap` in crates/scanline/specs/Laying.antt). Document 02, F-3: "Each patch's span changes its promise": a patch's own functions are all above 0 just where the line just beside the ray meets the
-- patch (`met_seen` in crates/edges/proofs/Meeting.antt).
pub record RowSpan (fs : List EdgeFunction) (j : ℕ) (within lit r : Span) : Type 0 where
  pub exact : (i : ℕ) → covers lit i ≡ false → covers r i ≡ (covers within i && all_above fs i j)
  pub limited : r.end ≤ within.end
