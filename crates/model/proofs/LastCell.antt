-- The tile that holds the window's last cell ends where the window ends, and the station counter rises with it alone.
use mathlib.Core.Path.{◌≡◌, refl, ap, ap₂, ◌∙◌}
use mathlib.Core.Logic.{⊎_elim}
use mathlib.Core.Bool.{Bool, true, false, cond, ◌&&◌, and-false}
use Prim.Native.Nat.{ℕ, ◌+◌, ◌-◌, ◌≤◌, ◌<◌}
use native.Mathlib.Omega.{arith}
use lib.Dec.{leb, ltb}
use borrow.Author.Tests.{lt-ltb, le-ltb, le-leb}
use Rattle.model.specs.View.{Camera}
use Rattle.model.specs.Picture.{next_counter}
use Rattle.model.proofs.Tests.{lt_or_ge}
use Rattle.model.proofs.CallLimits.{TileInside}

-- along one axis: of `count` cells from `first` on, inside `all`, the last of all is one exactly where they end with it
module _ (first count all : ℕ) (some : 1 ≤ count) (inside : first + count ≤ all) where
  abbrev has_last : Bool
  has_last = leb first (all - 1) && ltb (all - 1) (first + count)

  ends : first + count ≡ all → has_last ≡ true
  ends e = rw (le-leb first (all - 1) (omega arith), lt-ltb (all - 1) (first + count) (omega arith))

  stops_before : first + count < all → has_last ≡ false
  stops_before h = rw (le-ltb (all - 1) (first + count) (omega arith)) (and-false (leb first (all - 1)))

  stops : (first + count ≡ all → ⊥) → has_last ≡ false
  stops f =
      ⊎_elim stops_before (λ (h : all ≤ first + count). absurd (f (omega arith))) (lt_or_ge (first + count) all)

module _ (c : Camera) (inside : TileInside c.window c.tile) where
  abbrev columns : Bool
  columns = has_last c.tile.left c.tile.width c.window.width inside.some_columns inside.columns

  abbrev rows : Bool
  rows = has_last c.tile.top c.tile.height c.window.height inside.some_rows inside.rows

  next : (b d : Bool) → columns ≡ b → rows ≡ d → (n : ℕ) → next_counter c n ≡ cond (b && d) (n + 1) n
  next b d e f n = ap₂ (λ (p q : Bool). cond (p && q) (n + 1) n) e f

  -- the tile ends with the window, in columns and in rows
  pub raised :
      c.tile.left + c.tile.width ≡ c.window.width → c.tile.top + c.tile.height ≡ c.window.height → (n : ℕ) → next_counter c n ≡ n + 1
  raised e f =
      next true true (ends c.tile.left c.tile.width c.window.width inside.some_columns inside.columns e)
      (ends c.tile.top c.tile.height c.window.height inside.some_rows inside.rows f)

  -- it ends before the window does
  pub kept_columns : (c.tile.left + c.tile.width ≡ c.window.width → ⊥) → (n : ℕ) → next_counter c n ≡ n
  kept_columns f n =
      next false rows (stops c.tile.left c.tile.width c.window.width inside.some_columns inside.columns f) refl n

  pub kept_rows : (c.tile.top + c.tile.height ≡ c.window.height → ⊥) → (n : ℕ) → next_counter c n ≡ n
  kept_rows f n =
      next columns false refl (stops c.tile.top c.tile.height c.window.height inside.some_rows inside.rows f) n
      ∙ ap (λ (b : Bool). cond b (n + 1) n) (and-false columns)
