-- What a row shows while the patches of a walk are painted one after the other.
use mathlib.Core.Path.{◌≡◌, refl, ◌∙◌, ap}
use mathlib.Core.Bool.{Bool, true, false, not, cond, ◌&&◌, ◌||◌, true≢false, false≢true}
use mathlib.Core.List.{List, [], ◌∷◌, ◌++◌, Memᴰ}
use mathlib.Core.Option.{Option, none, some}
use Prim.Native.Nat.{ℕ, ◌≤◌}
use native.Mathlib.Omega.{arith}
use lib.Dec.{eqb}
use lib.ListN.{length}
use borrow.Author.Tests.{ne_eqb}
use Rattle.model.specs.Lists.{any}
use Rattle.model.specs.Vector.{Vec}
use Rattle.model.specs.Patch.{Patch}
use Rattle.model.specs.Ray.{met, panel_of, first_met}
use Rattle.model.specs.Row.{row_pairs, segments}
use Rattle.scanline.specs.Shown.{shown_after, unlit_after}
use Rattle.model.proofs.Tests.{any_append}
use Rattle.model.proofs.FirstMet.{or_else, first_met_append}
use Rattle.segments.proofs.Rows.{segments_few}

module _ (eye : Vec) (ray : ℕ → Vec) where
  -- Document 02, F-6: "a row never needs more than 128 stretches". So it is at each moment of the painting, whatever is painted by then: what question 13 asked.
  pub rows_need_few : (width : ℕ) → width ≤ 256 → (painted : List Patch) → length (segments width (unlit_after eye ray painted)) ≤ row_pairs
  rows_need_few width fits painted = segments_few width fits (unlit_after eye ray painted)

  pub unlit_first : (i : ℕ) → unlit_after eye ray [] i ≡ true
  unfolding unlit_after
  unlit_first i = refl

  pub shown_first : (i : ℕ) → shown_after eye ray [] i ≡ 0
  unfolding shown_after first_met panel_of
  shown_first i = refl

  -- one patch more leaves the columns that it does not meet
  pub unlit_next :
      (painted : List Patch) (p : Patch) (i : ℕ) →
      unlit_after eye ray (painted ++ p ∷ []) i ≡ (unlit_after eye ray painted i && not (met eye (ray i) p))
  unfolding unlit_after
  unlit_next painted p i =
      ap not (any_append (met eye (ray i)) painted (p ∷ [])) ∙ go (any (met eye (ray i)) painted) (met eye (ray i) p)
    where
      go : (a b : Bool) → not (a || (b || false)) ≡ (not a && not b)
      go true b = refl
      go false true = refl
      go false false = refl

  unlit_none : (painted : List Patch) (i : ℕ) → unlit_after eye ray painted i ≡ true → first_met eye (ray i) painted ≡ none
  unfolding unlit_after first_met
  unlit_none [] i e = refl
  unlit_none (p ∷ ps) i e = go (met eye (ray i) p) e (unlit_none ps i)
    where
      go : (b : Bool) → not (b || any (met eye (ray i)) ps) ≡ true
          → (not (any (met eye (ray i)) ps) ≡ true → first_met eye (ray i) ps ≡ none)
          → cond b (some p) (first_met eye (ray i) ps) ≡ none
      go true e f = absurd (false≢true e)
      go false e f = f e

  lit_some : (painted : List Patch) (i : ℕ) → unlit_after eye ray painted i ≡ false → (o : Option Patch) → or_else (first_met eye (ray i) painted) o ≡ first_met eye (ray i) painted
  unfolding unlit_after first_met
  lit_some [] i e o = absurd (true≢false e)
  lit_some (p ∷ ps) i e o = go (met eye (ray i) p) e (λ h. lit_some ps i h o)
    where
      go : (b : Bool) → not (b || any (met eye (ray i)) ps) ≡ false
          → (not (any (met eye (ray i)) ps) ≡ false → or_else (first_met eye (ray i) ps) o ≡ first_met eye (ray i) ps)
          → or_else (cond b (some p) (first_met eye (ray i) ps)) o ≡ cond b (some p) (first_met eye (ray i) ps)
      go true e f = refl
      go false e f = f e

  -- and is shown by the unlit columns that it meets
  pub shown_next :
      (painted : List Patch) (p : Patch) (i : ℕ) →
      shown_after eye ray (painted ++ p ∷ []) i
      ≡ cond (unlit_after eye ray painted i && met eye (ray i) p) p.panel (shown_after eye ray painted i)
  unfolding shown_after first_met panel_of
  shown_next painted p i =
      ap panel_of (first_met_append eye (ray i) painted (p ∷ []))
      ∙ go (unlit_after eye ray painted i) refl
    where
      one : (b : Bool) → first_met eye (ray i) painted ≡ none
          → panel_of (or_else (first_met eye (ray i) painted) (cond b (some p) none))
          ≡ cond b p.panel (panel_of (first_met eye (ray i) painted))
      one true e = rw e
      one false e = rw e

      go : (u : Bool) → unlit_after eye ray painted i ≡ u
          → panel_of (or_else (first_met eye (ray i) painted) (first_met eye (ray i) (p ∷ [])))
          ≡ cond (u && met eye (ray i) p) p.panel (panel_of (first_met eye (ray i) painted))
      go true e = one (met eye (ray i) p) (unlit_none painted i e)
      go false e = ap panel_of (lit_some painted i e (first_met eye (ray i) (p ∷ [])))

  -- a lit column stays as it is
  pub unlit_stays :
      (painted rest : List Patch) (i : ℕ) → unlit_after eye ray painted i ≡ false →
      unlit_after eye ray (painted ++ rest) i ≡ false
  unfolding unlit_after
  unlit_stays painted rest i e =
      ap not (any_append (met eye (ray i)) painted rest) ∙ go (any (met eye (ray i)) painted) e
    where
      go : (a : Bool) → not a ≡ false → not (a || any (met eye (ray i)) rest) ≡ false
      go true e = refl
      go false e = absurd (true≢false e)

  pub shown_stays :
      (painted rest : List Patch) (i : ℕ) → unlit_after eye ray painted i ≡ false →
      shown_after eye ray (painted ++ rest) i ≡ shown_after eye ray painted i
  unfolding shown_after
  shown_stays painted rest i e =
      ap panel_of (first_met_append eye (ray i) painted rest ∙ lit_some painted i e (first_met eye (ray i) rest))

  -- where every panel has a number above 0, an unlit column is one that shows 0
  pub unlit_shows_0 :
      (painted : List Patch) → ((p : Patch) → Memᴰ p painted → 1 ≤ p.panel) → (i : ℕ) →
      eqb (shown_after eye ray painted i) 0 ≡ unlit_after eye ray painted i
  unfolding shown_after unlit_after first_met panel_of
  unlit_shows_0 [] f i = refl
  unlit_shows_0 (p ∷ ps) f i = go (met eye (ray i) p) (unlit_shows_0 ps (λ q m. f q (Memᴰ.tail m)) i)
    where
      go : (b : Bool) → eqb (panel_of (first_met eye (ray i) ps)) 0 ≡ not (any (met eye (ray i)) ps)
          → eqb (panel_of (cond b (some p) (first_met eye (ray i) ps))) 0 ≡ not (b || any (met eye (ray i)) ps)
      go true e = let h : 1 ≤ p.panel = f p (Memᴰ.head refl) in ne_eqb p.panel 0 (λ z. omega arith)
      go false e = e
