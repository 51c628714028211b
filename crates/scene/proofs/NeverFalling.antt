-- Question 7, patch by patch and node by node.
use mathlib.Core.Path.{◌≡◌, refl, sym, ap, ◌∙◌, subst}
use mathlib.Core.Bool.{true, false, ◌&&◌}
use mathlib.Core.List.{List, [], ◌∷◌, map, map-map}
use Prim.Native.Nat.{ℕ, suc, ◌+◌, ◌-◌, ◌≤◌, ◌<◌}
use native.Mathlib.Numerals.{add-one}
use native.Mathlib.Omega.{arith}
use lib.Dec.{leb}
use borrow.Author.Tests.{le-leb, lt-leb}
use Rattle.model.specs.Lists.{range}
use Rattle.model.specs.Format.{PatchRecord, decode}
use Rattle.model.specs.Questions.{never_falling}
use Rattle.format.specs.declared.layout.Layout.{Layout}
use Rattle.format.specs.Layout.{LaidOut, patch_number}
use Rattle.format.proofs.Decoded.{patches_in_lem}
use Rattle.scene.specs.Tests.{run_never_falls}

-- ---- one run
module _ (panel : ℕ → ℕ) (first end : ℕ) where
  -- the panels before place k do not fall, and the last of them is low
  pub record RisingTo (k low : ℕ) : Type 0 where
    pub most : k ≤ end
    pub rest : never_falling (map panel (range first (end - first))) ≡ never_falling (low ∷ map panel (range k (end - k)))

  from_zero : (ns : List ℕ) → never_falling ns ≡ never_falling (0 ∷ ns)
  unfolding never_falling
  from_zero [] = refl
  from_zero (n ∷ ns) = rw (le-leb 0 n (omega arith))

  pub none_rise : first ≤ end → RisingTo first 0
  none_rise h = record { most = h; rest = from_zero (map panel (range first (end - first))) }

  module _ {k low : ℕ} (r : RisingTo k low) where
    next_panel :
        k < end →
        never_falling (map panel (range first (end - first)))
        ≡ (leb low (panel k) && never_falling (panel k ∷ map panel (range (k + 1) (end - (k + 1)))))
    unfolding never_falling
    next_panel h =
        let e : end - k ≡ suc (end - (k + 1)) = omega arith in
        r.rest ∙ rw (e, add-one)

    pub falls : {n : ℕ} → k < end → n ≡ panel k → n < low → false ≡ never_falling (map panel (range first (end - first)))
    falls h e b = sym (next_panel h ∙ rw (lt-leb low (panel k) (subst (λ (m : ℕ). m < low) e b)))

    pub one_rises : {n : ℕ} → k < end → n ≡ panel k → low ≤ n → RisingTo (k + 1) n
    one_rises {n} h e b = record { most = omega arith; rest = next_panel h ∙ rw (← e, le-leb low n b) }

    pub all_rise : end ≤ k → true ≡ never_falling (map panel (range first (end - first)))
    unfolding never_falling
    all_rise h =
        let e : end - k ≡ 0 = omega arith in
        sym (r.rest ∙ rw e)

-- ---- the tables
module _ {bytes : List ℕ} {l : Layout} (laid : LaidOut bytes l) where
  -- a run's panels, as they are read
  pub run_panels : (a b : ℕ) → a + b ≤ l.patches →
      never_falling (map (λ (k : ℕ). (patch_number bytes l k).panel) (range a (a + b - a))) ≡ run_never_falls (decode bytes).patches (record { first = a; count = b })
  run_panels a b h =
      let e : a + b - a ≡ b = omega arith in
      ap never_falling
      (ap (λ (m : ℕ). map (λ (k : ℕ). (patch_number bytes l k).panel) (range a m)) e
      ∙ sym
      (ap (map (λ (p : PatchRecord). p.panel)) (patches_in_lem laid a b h) ∙ map-map (λ (p : PatchRecord). p.panel) (patch_number bytes l) (range a b)))
