-- The patch that a column is booked to while the patches of a walk are painted one after the other.
use mathlib.Core.Path.{◌≡◌, refl, sym, ap, ◌∙◌}
use mathlib.Core.Bool.{Bool, true, false, not, cond, ◌&&◌, ◌||◌, true≢false, or-false}
use mathlib.Core.List.{List, [], ◌∷◌, ◌++◌, map}
use Prim.Native.Nat.{ℕ, ◌+◌, ◌<◌}
use native.Mathlib.Nat.{add-zero}
use lib.Dec.{eqb}
use Rattle.model.specs.Lists.{any, range, tally}
use Rattle.model.specs.Vector.{Vec}
use Rattle.model.specs.Patch.{Patch}
use Rattle.model.specs.Ray.{met}
use Rattle.model.specs.Booking.{first_is}
use Rattle.segments.proofs.Tallies.{tally_or, tally_congr}
use Rattle.scanline.specs.Shown.{unlit_after}

-- how many cells of a row are booked to patch n: those whose rays meet it, and no patch of the walk before it
unfoldable pub row_cells : Vec → (ℕ → Vec) → (ℕ → Patch) → List ℕ → ℕ → ℕ → ℕ
row_cells eye ray patch order width n = tally (λ (i : ℕ). first_is eye (ray i) patch order n) (range 0 width)

-- how many columns a patch newly lights after some are painted: those whose lines meet it and none of these
unfoldable pub newly_lit : Vec → (ℕ → Vec) → ℕ → List Patch → Patch → ℕ
newly_lit eye ray width painted p = tally (λ (i : ℕ). unlit_after eye ray painted i && met eye (ray i) p) (range 0 width)

module _ (eye d : Vec) (patch : ℕ → Patch) (n : ℕ) where
  -- one patch more is the first where none before it is met
  first_more :
      (ks : List ℕ) (m : ℕ) →
      first_is eye d patch (ks ++ m ∷ []) n
      ≡ (first_is eye d patch ks n || (eqb m n && (not (any (met eye d) (map patch ks)) && met eye d (patch m))))
  unfolding first_is
  first_more [] m = go (met eye d (patch m)) (eqb m n)
    where
      go : (b e : Bool) → cond b e false ≡ (e && b)
      go true true = refl
      go true false = refl
      go false true = refl
      go false false = refl
  first_more (k ∷ ks) m = go (met eye d (patch k)) (eqb k n) (eqb m n) (met eye d (patch m)) (first_more ks m)
    where
      go : (b f e t : Bool) → first_is eye d patch (ks ++ m ∷ []) n ≡ (first_is eye d patch ks n || (e && (not (any (met eye d) (map patch ks)) && t))) →
          cond b f (first_is eye d patch (ks ++ m ∷ []) n)
          ≡ (cond b f (first_is eye d patch ks n) || (e && (not (b || any (met eye d) (map patch ks)) && t)))
      go true true e t h = refl
      go true false true t h = refl
      go true false false t h = refl
      go false f e t h = h

  -- a column whose patch is booked is lit
  first_lit : (ks : List ℕ) → first_is eye d patch ks n ≡ true → any (met eye d) (map patch ks) ≡ true
  unfolding first_is
  first_lit [] e = absurd (true≢false (sym e))
  first_lit (k ∷ ks) e = go (met eye d (patch k)) e (first_lit ks)
    where
      go : (b : Bool) → cond b (eqb k n) (first_is eye d patch ks n) ≡ true → (first_is eye d patch ks n ≡ true → any (met eye d) (map patch ks) ≡ true) →
          (b || any (met eye d) (map patch ks)) ≡ true
      go true e h = refl
      go false e h = h e

  -- a lit column stays booked as it is
  first_stays :
      (ks rest : List ℕ) → any (met eye d) (map patch ks) ≡ true → first_is eye d patch (ks ++ rest) n ≡ first_is eye d patch ks n
  unfolding first_is
  first_stays [] rest e = absurd (true≢false (sym e))
  first_stays (k ∷ ks) rest e = go (met eye d (patch k)) e (first_stays ks rest)
    where
      go : (b : Bool) → (b || any (met eye d) (map patch ks)) ≡ true →
          (any (met eye d) (map patch ks) ≡ true → first_is eye d patch (ks ++ rest) n ≡ first_is eye d patch ks n) →
          cond b (eqb k n) (first_is eye d patch (ks ++ rest) n) ≡ cond b (eqb k n) (first_is eye d patch ks n)
      go true e h = refl
      go false e h = h e

lit_any : (u : Bool) → not u ≡ false → u ≡ true
lit_any true e = refl
lit_any false e = absurd (true≢false e)

module _ (eye : Vec) (ray : ℕ → Vec) (patch : ℕ → Patch) (width n : ℕ) where
  -- one patch more adds what it newly lights to its own entry, and nothing to others
  pub row_more :
      (ks : List ℕ) (m : ℕ) →
      row_cells eye ray patch (ks ++ m ∷ []) width n
      ≡ row_cells eye ray patch ks width n + cond (eqb m n) (newly_lit eye ray width (map patch ks) (patch m)) 0
  unfolding row_cells newly_lit unlit_after
  row_more ks m =
      tally_congr _ _ width (λ i h. first_more eye (ray i) patch n ks m)
      ∙ go (eqb m n)
    where
      first : ℕ → Bool
      first i = first_is eye (ray i) patch ks n

      fresh : ℕ → Bool
      fresh i = not (any (met eye (ray i)) (map patch ks)) && met eye (ray i) (patch m)

      never : (i : ℕ) (b : Bool) → first i ≡ b → (b && fresh i) ≡ false
      never i true e = ap (λ (c : Bool). not c && met eye (ray i) (patch m)) (first_lit eye (ray i) patch n ks e)
      never i false e = refl

      go : (b : Bool) →
          tally (λ (i : ℕ). first i || (b && fresh i)) (range 0 width)
          ≡ tally first (range 0 width) + cond b (tally fresh (range 0 width)) 0
      go true = tally_or first fresh (range 0 width) (λ i. never i (first i) refl)
      go false = tally_congr _ _ width (λ i h. or-false (first i)) ∙ sym (add-zero _)

  -- a full row stays booked as it is
  pub row_stays :
      (ks rest : List ℕ) → ((i : ℕ) → i < width → unlit_after eye ray (map patch ks) i ≡ false) →
      row_cells eye ray patch (ks ++ rest) width n ≡ row_cells eye ray patch ks width n
  unfolding row_cells unlit_after
  row_stays ks rest full = tally_congr _ _ width (λ i h. first_stays eye (ray i) patch n ks rest (lit_any _ (full i h)))
