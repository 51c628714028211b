-- An edge that counts in: one more at the start says that the line just beside a ray passes on the edge's side.
use mathlib.Core.Path.{◌≡◌, refl, sym, ap, subst, ◌∙◌}
use mathlib.Core.Logic.{◌↔◌, ◌≢◌, ◌⊎◌, inl, inr}
use mathlib.Core.Bool.{Bool, true, false, cond}
use mathlib.Core.List.{[], ◌∷◌}
use Prim.Native.Nat.{ℕ, zero, suc}
use native.Mathlib.Omega.{arith}
use lib.Dec.{T, lit<, lt→ltb}
use lib.IntN.{ℤ, pos, negsuc, ◌+ℤ◌}
use lib.Signed.{lt_z, ◌<ℤ◌, ◌≤ℤ◌, lt_z_yes, clash_ℤ}
use mir.Syntax.{w64}
use mir.Val.{SFits, to_z, of_z}
use mir.ValLaws.{to_z-of_z}
use Rattle.integer.specs.Magnitude.{Within}
use Rattle.integer.proofs.Identity.{ring, reify}
use Rattle.integer.proofs.Magnitude.{within_stored}
use Rattle.integer.proofs.Order.{<_by, <→≤, ≡→≤, ≤_suc, <_suc, +_mono-≤, Compared, below, same, above, compared}
use Rattle.model.specs.Vector.{is_zero}
use Rattle.model.proofs.Steep.{Steep, FirstAbove, weighted, weighted_says}
use Rattle.geometry.specs.Machine.{NumberIs}
use Rattle.geometry.specs.Raster.{one_above, counts_in}

-- ---- what is returned of the first of two numbers that is not 0, where both passed through words

module _ (slope drop : ℤ) {r : ℤ} where
  -- what is returned of a number, both passed through words, where the number is the first of the two that is not 0
  counted_by :
      {n : ℤ} → n ≡ cond (is_zero slope) drop slope → SFits w64 n → NumberIs 1 (one_above (to_z w64 (of_z w64 n))) r →
      NumberIs 1 (counts_in slope drop) (to_z w64 (of_z w64 r))
  counted_by {n} is f h =
      let e = within_stored w64 h.bounded (lit< tt) in
      record { value = e ∙ h.value ∙ ap one_above (to_z-of_z w64 n f ∙ is); bounded = subst (Within 1) (sym e) h.bounded }

  pub by_drop :
      slope ≡ pos 0 → SFits w64 drop → NumberIs 1 (one_above (to_z w64 (of_z w64 drop))) r →
      NumberIs 1 (counts_in slope drop) (to_z w64 (of_z w64 r))
  by_drop e f h = counted_by (ap (λ (s : ℤ). cond (is_zero s) drop s) (sym e)) f h

  pub by_slope :
      slope ≢ pos 0 → SFits w64 slope → NumberIs 1 (one_above (to_z w64 (of_z w64 slope))) r →
      NumberIs 1 (counts_in slope drop) (to_z w64 (of_z w64 r))
  by_slope g f h = counted_by (go slope g) f h
    where
      go : (s : ℤ) → s ≢ pos 0 → s ≡ cond (is_zero s) drop s
      go (pos zero) g = absurd (g refl)
      go (pos (suc n)) g = refl
      go (negsuc n) g = refl

-- ---- what one more at the start says

-- the first of two numbers that is not 0 is above 0
abbrev Rises : ℤ → ℤ → Type 0
Rises y z = (pos 0 <ℤ y) ⊎ ((y ≡ pos 0) × (pos 0 <ℤ z))

rises_says : (y z : ℤ) → T (lt_z (pos 0) (cond (is_zero y) z y)) ↔ Rises y z
rises_says (pos zero) z = (λ t. inr (refl, lt_z_yes t), from)
  where
    from : Rises (pos zero) z → T (lt_z (pos 0) z)
    from (inl h) = clash_ℤ h (≡→≤ refl)
    from (inr (_, h)) = h.lt
rises_says (pos (suc n)) z = (λ t. inl (lt_z_yes t), λ h. lt→ltb 0 (suc n) (omega arith))
rises_says (negsuc n) z = (λ t. absurd t, from)
  where
    from : Rises (negsuc n) z → ⊥
    from (inl h) = h.lt
    from (inr (e, _)) = clash_ℤ (lt_z_yes {a = negsuc n} {b = pos 0} tt) (≡→≤ (sym e))

first_start : (x y z : ℤ) → FirstAbove x y z ↔ (pos 0 <ℤ (x +ℤ counts_in y z))
first_start x y z = go (lt_z (pos 0) (cond (is_zero y) z y)) (rises_says y z)
  where
    go : (b : Bool) → T b ↔ Rises y z → FirstAbove x y z ↔ (pos 0 <ℤ (x +ℤ cond b (pos 1) (pos 0)))
    go true says = (λ l. ≤_suc (at_least l), λ h. by (compared (pos 0) x) (<_suc h))
      where
        at_least : FirstAbove x y z → (pos 0 +ℤ pos 1) ≤ℤ (x +ℤ pos 1)
        at_least (inl h) = +_mono-≤ (<→≤ h) (≡→≤ refl)
        at_least (inr (e, _)) = +_mono-≤ (≡→≤ (sym e)) (≡→≤ refl)

        by : Compared (pos 0) x → pos 0 ≤ℤ x → FirstAbove x y z
        by (below h) k = inl h
        by (same e) k = inr (sym e, says.0 tt)
        by (above h) k = clash_ℤ h k
    go false says = (λ l. only l, λ h. inl (<_by h (ring (x ∷ []) (search reify depth 40 fits 200000, tt))))
      where
        only : FirstAbove x y z → pos 0 <ℤ (x +ℤ pos 0)
        only (inl h) = <_by h (ring (x ∷ []) (search reify depth 40 fits 200000, tt))
        only (inr (_, l)) = absurd (says.1 l)

-- a product with a line just beside a ray is above 0 exactly when that with the ray, one more where the edge counts in, is
pub weighted_start :
    {n : ℕ} {α β γ : ℤ} → Steep (pos n) α β γ → (x : ℤ) {y z : ℤ} → Within n y → Within n z →
    (pos 0 <ℤ weighted α β γ x y z) ↔ (pos 0 <ℤ (x +ℤ counts_in y z))
weighted_start s x {y} {z} hy hz =
    let a = weighted_says s hy hz in
    let b = first_start x y z in
    (λ h. b.0 (a.0 h), λ h. a.1 (b.1 h))
