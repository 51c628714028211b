-- Where any patch is met just one has the cell, and its panel is the closest.
use mathlib.Core.Path.{◌≡◌, sym, ap, subst, ◌∙◌}
use mathlib.Core.Bool.{not, ◌&&◌}
use mathlib.Core.Logic.{◌↔◌, ◌⊎◌, inl, inr}
use mathlib.Core.List.{List, ◌∷◌, Memᴰ}
use mathlib.Core.Option.{Option, none, some}
use Prim.Native.Nat.{ℕ, ◌≤◌, ◌<◌}
use native.Mathlib.Nat.{zero-add, le_refl, eq-or-lt_of_le}
use native.Mathlib.Decide.{ℕ_discrete}
use native.Mathlib.Omega.{arith}
use lib.Dec.{T, not_T, T_not, ltb, lt→ltb}
use lib.ListN.{length, length-append, get_or-append}
use lib.Seq.{get_or-append_seam}
use Rattle.model.specs.Lists.{range}
use Rattle.model.specs.Vector.{Vec}
use Rattle.model.specs.Patch.{Patch, numbered}
use Rattle.model.specs.Ray.{met, distance, precedes, closest_patch, closest, none_met, shows}
use Rattle.model.specs.Booking.{has_cell, HasCell}
use Rattle.model.proofs.Tests.{both, either, lt_or_ge}
use Rattle.model.proofs.Ranges.{get_d_member, of_map, of_range, all_by_number}
use Rattle.model.proofs.Precedes.{nearer, below_asym}
use Rattle.model.proofs.Closest.{NoneMet, Found, closest_patch_found, closest_only}
use Rattle.model.proofs.Leads.{Earlier, Leads, shows_before_lem, Has, has_says}

-- what holds of each number's patch holds of each patch
of_numbered :
    (P : Patch → Type 0) (ps : List Patch) →
    ((k : ℕ) → k < length ps → P (numbered ps k)) →
    (q : Patch) →
    Memᴰ q ps →
    P q
of_numbered P ps f q m =
    of_map P (numbered ps) (range 0 (length ps))
    (of_range (λ (k : ℕ). P (numbered ps k)) 0 (length ps) (λ k h. rw zero-add (f k h))) q
    (subst (Memᴰ q) (sym (all_by_number ps _)) m)

module _ (eye d : Vec) (ps : List Patch) where
  abbrev at : ℕ → Patch
  at = numbered ps

  -- two patches do not lead each other: a cell is not booked twice
  pub has_once : (k m : ℕ) → k < length ps → m < length ps → Has eye d ps k → Has eye d ps m → k ≡ m
  has_once k m hk hm h g = decide (ℕ_discrete k m)
    where
      clash : Earlier ps k m → Earlier ps m k → ⊥
      clash (inl a) (inl b) = omega arith
      clash (inl a) (inr b) = omega arith
      clash (inr a) (inl b) = omega arith
      clash (inr a) (inr b) = omega arith

      decide : Dec (k ≡ m) → k ≡ m
      decide (yes e) = e
      decide (no f) =
          let a : Leads eye d ps k m = h.leads m hm (λ e. f (sym e)) g.is_met in
          let b : Leads eye d ps m k = g.leads k hk f h.is_met in
          absurd (clash (a.1 b.0) (b.1 a.0))

  -- the facts in the words of the relation: patch k is not behind any patch that is met, itself counted in
  has_words : (k : ℕ) → Has eye d ps k → HasCell eye d ps k
  has_words k h =
      record {
        is_met = h.is_met;
        nearest = λ m hm t. not_T (nearer eye d (at m) (at k)) (behind m hm t).0;
        lowest = λ m hm t u. ((behind m hm t).1 (T_not (nearer eye d (at k) (at m)) u)).0;
        earliest = λ m hm t u e. ((behind m hm t).1 (T_not (nearer eye d (at k) (at m)) u)).1 e;
      }
    where
      First : ℕ → Type 0
      First m = ((at k).panel ≤ (at m).panel) × ((at k).panel ≡ (at m).panel → k ≤ m)

      Behind : ℕ → Type 0
      Behind m = (T (nearer eye d (at m) (at k)) → ⊥) × ((T (nearer eye d (at k) (at m)) → ⊥) → First m)

      first : {m : ℕ} → Earlier ps k m → First m
      first (inl l) = (omega arith, λ e. absurd (omega arith))
      first (inr l) = (omega arith, λ e. omega arith)

      behind : (m : ℕ) → m < length ps → T (met eye d (at m)) → Behind m
      behind m hm t = go (ℕ_discrete m k)
        where
          go : Dec (m ≡ k) → Behind m
          go (yes e) =
              subst Behind (sym e)
              (λ u. below_asym (distance eye d (at k)) (distance eye d (at k)) u u, λ f. (le_refl (at k).panel, λ e. le_refl k))
          go (no f) = let l : Leads eye d ps k m = h.leads m hm f t in (l.0, λ g. first (l.1 g))

  -- the test is the relation
  pub has_cell_lem : (k : ℕ) → T (has_cell eye d ps k) ↔ HasCell eye d ps k
  has_cell_lem k = (λ t. has_words k ((has_says eye d ps k).0 t), λ h. (has_says eye d ps k).1 (leading h))
    where
      by_place :
          (m : ℕ) → (m ≡ k → ⊥) → ((at k).panel ≡ (at m).panel → k ≤ m) → ((at k).panel ≡ (at m).panel) ⊎ ((at k).panel < (at m).panel) →
          Earlier ps k m
      by_place m f g (inl e) = let l : k ≤ m = g e in inr (e, omega arith)
      by_place m f g (inr l) = inl l

      leading : HasCell eye d ps k → Has eye d ps k
      leading h =
          record {
            is_met = h.is_met;
            leads = λ m hm f t. (
              T_not (nearer eye d (at m) (at k)) (h.nearest m hm t),
              λ g.
                  let u = not_T (nearer eye d (at k) (at m)) g in
                  by_place m f (h.earliest m hm t u) (eq-or-lt_of_le (h.lowest m hm t u)),
            );
          }

  -- the patch that has the cell shows the closest panel
  pub has_panel : (k : ℕ) → k < length ps → Has eye d ps k → closest eye d ps ≡ (numbered ps k).panel
  has_panel k hk h =
      let c = has_words k h in
      sym (closest_only eye d ps
      (shows (at k) (get_d_member ps k _ hk) h.is_met
      (of_numbered (λ (q : Patch). T (met eye d q) → T (not (nearer eye d q (at k)))) ps c.nearest)
      (of_numbered (λ (q : Patch). T (met eye d q) → T (not (nearer eye d (at k) q)) → (at k).panel ≤ q.panel) ps c.lowest)))

  -- no patch is met, or one has the cell
  abbrev pub NoneOrOne : Type 0
  NoneOrOne = NoneMet eye d ps ⊎ ((k : ℕ) × (k < length ps) × Has eye d ps k)

  pub none_or_one : NoneOrOne
  none_or_one = go (closest_patch eye d ps) (closest_patch_found eye d ps)
    where
      go : (o : Option Patch) → Found eye d ps o → NoneOrOne
      go none f = inl f
      go (some p) c = inr (k, omega (arith, ap length c.place, length-append c.before (p ∷ c.after)), has)
        where
          k : ℕ
          k = length c.before

          here : at k ≡ p
          here = ap (λ (l : List Patch). numbered l k) c.place ∙ get_or-append_seam c.before p c.after _

          before : (m : ℕ) → m < k → Memᴰ (at m) c.before
          before m l =
              subst (λ (q : Patch). Memᴰ q c.before)
              (sym (ap (λ (l : List Patch). numbered l m) c.place ∙ get_or-append c.before (p ∷ c.after) _ m l))
              (get_d_member c.before m _ l)

          -- it precedes those before it, and none after it precedes it
          beats :
              (m : ℕ) →
              m < length ps →
              T (met eye d (at m)) →
              (m ≡ k → ⊥) →
              (m < k) ⊎ (k ≤ m) →
              T (precedes eye d (at k) (at m)) ⊎ T (not (precedes eye d (at m) (at k)) && ltb k m)
          beats m hm t f (inl l) = inl (rw here (c.earliest (at m) (before m l) t))
          beats m hm t f (inr l) =
              inr ((both (not (precedes eye d (at m) (at k))) (ltb k m)).1 (
                not_T (precedes eye d (at m) (at k)) (λ u. c.least (at m) (get_d_member ps m _ hm) t (rw here at u)),
                lt→ltb k m (omega arith),
              ))

          has : Has eye d ps k
          has =
              record {
                is_met = rw here c.is_met;
                leads = λ m hm f t.
                    (shows_before_lem eye d ps k m).0 ((either (precedes eye d (at k) (at m)) _).1 (beats m hm t f (lt_or_ge m k)));
              }

  -- a cell that shows a panel is some patch's
  pub booked_some_lem : (closest eye d ps ≡ 0 → ⊥) → (k : ℕ) × (k < length ps) × T (has_cell eye d ps k)
  booked_some_lem f = go none_or_one
    where
      go : NoneOrOne → (k : ℕ) × (k < length ps) × T (has_cell eye d ps k)
      go (inl g) = absurd (f (sym (closest_only eye d ps (none_met g))))
      go (inr (k, hk, h)) = (k, hk, (has_says eye d ps k).1 h)

  -- the same of the test
  pub booked_once_lem :
      (k m : ℕ) →
      k < length ps →
      m < length ps →
      T (has_cell eye d ps k) →
      T (has_cell eye d ps m) →
      k ≡ m
  booked_once_lem k m hk hm t u = has_once k m hk hm ((has_says eye d ps k).0 t) ((has_says eye d ps m).0 u)

  pub booked_panel_lem : (k : ℕ) → k < length ps → T (has_cell eye d ps k) → closest eye d ps ≡ (numbered ps k).panel
  booked_panel_lem k hk t = has_panel k hk ((has_says eye d ps k).0 t)
