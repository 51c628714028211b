-- A span that was sought among the unlit columns of a row lays the same as all columns where some edge functions are above 0.
use mathlib.Core.Path.{◌∙◌}
use mathlib.Core.List.{List}
use Prim.Native.Nat.{ℕ}
use lib.ListN.{length}
use Rattle.geometry.specs.declared.EdgeFunction.{EdgeFunction}
use Rattle.spans.specs.declared.Span.{Span}
use Rattle.spans.specs.Span.{covers}
use Rattle.spans.specs.Row.{all_above, RowSpan}
use Rattle.scanline.specs.Laying.{UnlitHull, LitGap, ColumnsLaid}
use Rattle.scanline.proofs.Columns.{columns_congr}

-- it has every unlit column of them, and may be what it likes among lit ones
pub functions_laid :
    {fs : List EdgeFunction} {j panel : ℕ} {row words cells row' words' cells' : List ℕ} {lit : ℕ} {hull gap r : Span} →
    UnlitHull (length cells) row hull → LitGap (length cells) row gap → RowSpan fs j hull gap r →
    ColumnsLaid (covers r) panel row words cells row' words' cells' lit →
    ColumnsLaid (λ (i : ℕ). all_above fs i j) panel row words cells row' words' cells' lit
functions_laid u g h laid = columns_congr (λ unlit e i b t. h.exact i (g.none unlit e i b t) ∙ rw (u.all unlit e i b t)) laid
