-- A row's span, edge function by edge function.
use mathlib.Core.Path.{◌≡◌, refl, sym, ◌∙◌, ap}
use mathlib.Core.Logic.{inl, inr, ⊎_elim}
use mathlib.Core.Bool.{false, ◌&&◌, and_assoc, and-true, and-false}
use mathlib.Core.List.{List, ◌∷◌}
use Prim.Native.Nat.{ℕ, ◌+◌, ◌≤◌, ◌<◌}
use native.Mathlib.Numerals.{add-one}
use native.Mathlib.Omega.{arith}
use borrow.Author.Tests.{lt-leb, le-ltb}
use lib.Dec.{leb}
use lib.ListN.{length, get_or, drop, drop_of_length-le}
use lib.Seq.{drop-cons}
use Rattle.geometry.specs.declared.EdgeFunction.{EdgeFunction}
use Rattle.spans.specs.declared.Span.{Span}
use Rattle.spans.specs.Span.{covers, Shaped, number_at, ClippedBut}
use Rattle.spans.specs.Row.{all_above, RowSpan}
use Rattle.model.proofs.Tests.{lt_or_ge}

-- the span of all columns
pub shaped_all : (width : ℕ) → Shaped width (record { first = 0; end = width })
shaped_all width =
    record {
      written = ⊎_elim (λ (l : 0 < width). inl l) (λ (l : width ≤ 0). inr (refl, omega arith)) (lt_or_ge 0 width);
      limited = omega arith;
    }

pub no_columns : (s : Span) → s.end ≤ s.first → (i : ℕ) → covers s i ≡ false
no_columns s h i =
    ⊎_elim
    (λ (l : i < s.first). rw (lt-leb s.first i l))
    (λ (l : s.first ≤ i). rw (le-ltb i s.end (omega arith)) (and-false (leb s.first i)))
    (lt_or_ge i s.first)

-- after the first k of some functions: the columns wanted are those of the span where the others are above 0, but for lit ones
pub record Narrowed (fs : List EdgeFunction) (j : ℕ) (within lit : Span) (k : ℕ) (s : Span) : Type 0 where
  pub limited : s.end ≤ within.end
  pub left :
      (i : ℕ) → covers lit i ≡ false →
      (covers within i && all_above fs i j) ≡ (covers s i && all_above (drop k fs) i j)

module _ {fs : List EdgeFunction} {j : ℕ} {within lit : Span} where
  module _ {k : ℕ} {s : Span} (n : Narrowed fs j within lit k s) where
    pub narrowed_more :
        (d : EdgeFunction) {r : Span} → k < length fs →
        ClippedBut lit (get_or fs k d).slope (number_at (get_or fs k d).drop (get_or fs k d).start j) s r →
        Narrowed fs j within lit (k + 1) r
    unfolding all_above
    narrowed_more d {r} h c =
        record {
          limited = omega (arith, c.limited, n.limited);
          left = λ i b.
              n.left i b
              ∙ ap (λ (gs : List EdgeFunction). covers s i && all_above gs i j)
              (drop-cons fs k d h ∙ ap (λ (m : ℕ). get_or fs k d ∷ drop m fs) (sym (add-one k)))
              ∙ rw (c.exact i b) (sym (and_assoc (covers s i) _ _));
        }

    pub narrowed_all : length fs ≤ k → RowSpan fs j within lit s
    unfolding all_above
    narrowed_all h =
        record {
          exact = λ i b. sym (n.left i b ∙ ap (λ (gs : List EdgeFunction). covers s i && all_above gs i j) (drop_of_length-le fs h) ∙ and-true (covers s i));
          limited = n.limited;
        }
