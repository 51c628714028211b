-- A list whose panel numbers are made to tell its patches apart, by panel and then by place: its closest number names the patch that has the cell. So what is
-- proved of closest panels serves patch numbers too, ties and repeated patches included.
use mathlib.Core.Path.{◌≡◌, sym, ap, subst, ◌∙◌}
use mathlib.Core.Logic.{◌↔◌, ◌⊎◌, inl, inr}
use mathlib.Core.List.{List, map}
use Prim.Native.Nat.{ℕ, ◌+◌, ◌*◌, ◌≤◌, ◌<◌}
use native.Mathlib.Nat.{zero-add, mul-le-mul, le_refl, eq-or-lt_of_le}
use native.Mathlib.Omega.{arith}
use lib.Dec.{T}
use lib.ListN.{length, length-map}
use Rattle.model.specs.Lists.{range}
use Rattle.model.specs.Vector.{Vec}
use Rattle.model.specs.Patch.{Patch, numbered}
use Rattle.model.specs.Ray.{met, closest, none_met}
use Rattle.model.specs.Booking.{has_cell}
use Rattle.model.proofs.Tests.{lt_or_ge}
use Rattle.model.proofs.Ranges.{range_length, range_at}
use Rattle.model.proofs.Closest.{closest_only}
use Rattle.model.proofs.Leads.{Earlier, Leads, Has, has_says}
use Rattle.model.proofs.Booked.{has_panel, NoneOrOne, none_or_one}

-- ---- panel and place as one number

abbrev pub label : ℕ → ℕ → ℕ → ℕ
label limit panel k = panel * limit + k

-- it orders by panel first, and then by place
label_order :
    (limit a b k m : ℕ) →
    k < limit →
    m < limit →
    label limit a k ≤ label limit b m →
    (a < b) ⊎ ((a ≡ b) × (k ≤ m))
label_order limit a b k m hk hm h = go (lt_or_ge a b)
  where
    level : (b ≡ a) ⊎ (b < a) → (a < b) ⊎ ((a ≡ b) × (k ≤ m))
    level (inl e) = inr (sym e, let z = ap (λ (x : ℕ). x * limit) e in omega arith)
    level (inr l) = absurd (omega (arith, mul-le-mul l (le_refl limit)))

    go : (a < b) ⊎ (b ≤ a) → (a < b) ⊎ ((a ≡ b) × (k ≤ m))
    go (inl l) = inl l
    go (inr l) = level (eq-or-lt_of_le l)

-- so labels tell places apart
pub one_label : (limit a b k m : ℕ) → k < limit → m < limit → label limit a k ≡ label limit b m → k ≡ m
one_label limit a b k m hk hm e =
    go (label_order limit a b k m hk hm (omega arith)) (label_order limit b a m k hm hk (omega arith))
  where
    go : (a < b) ⊎ ((a ≡ b) × (k ≤ m)) → (b < a) ⊎ ((b ≡ a) × (m ≤ k)) → k ≡ m
    go (inl l) (inl r) = absurd (omega arith)
    go (inl l) (inr r) = absurd (omega arith)
    go (inr l) (inl r) = absurd (omega arith)
    go (inr l) (inr r) = omega arith

-- ---- a list with labels

abbrev pub relabel : ℕ → ℕ → Patch → Patch
relabel limit k p = record { panel = label limit p.panel k; corners = p.corners }

abbrev pub labelled : ℕ → List Patch → List Patch
labelled limit ps = map (λ (k : ℕ). relabel limit k (numbered ps k)) (range 0 (length ps))

module _ (eye d : Vec) (ps : List Patch) (limit : ℕ) (room : length ps ≤ limit) where
  abbrev at : ℕ → Patch
  at = numbered ps

  same_length : length (labelled limit ps) ≡ length ps
  same_length = length-map (range 0 (length ps)) (λ (k : ℕ). relabel limit k (at k)) ∙ range_length 0 (length ps)

  labelled_at : (k : ℕ) → k < length ps → numbered (labelled limit ps) k ≡ relabel limit k (at k)
  labelled_at k h =
      range_at (λ (k : ℕ). relabel limit k (at k)) 0 (length ps) k _ h ∙ ap (λ (k : ℕ). relabel limit k (at k)) (zero-add k)

  -- what is met and how far it is stays, as both look at corners alone
  same_met : (k : ℕ) → k < length ps → met eye d (numbered (labelled limit ps) k) ≡ met eye d (at k)
  unfolding met
  same_met k h = ap (met eye d) (labelled_at k h)

  module _ (k m : ℕ) (hk : k < length ps) (hm : m < length ps) where
    lower : Earlier ps k m → label limit (at k).panel k < label limit (at m).panel m
    lower (inl l) = omega (arith, mul-le-mul l (le_refl limit), room)
    lower (inr (e, l)) = let z = ap (λ (x : ℕ). x * limit) e in omega arith

    leads_labelled : Leads eye d ps k m → Leads eye d (labelled limit ps) k m
    leads_labelled (f, g) = rw (labelled_at k hk, labelled_at m hm) (f, λ u. inl (lower (g u)))

    leads_back : (m ≡ k → ⊥) → Leads eye d (labelled limit ps) k m → Leads eye d ps k m
    leads_back apart h = let g = rw (labelled_at k hk, labelled_at m hm) at h in (g.0, λ u. back (g.1 u))
      where
        named : ((at k).panel < (at m).panel) ⊎ (((at k).panel ≡ (at m).panel) × (k ≤ m)) → Earlier ps k m
        named (inl l) = inl l
        named (inr (e, l)) = inr (e, omega arith)

        ordered : label limit (at k).panel k ≤ label limit (at m).panel m → Earlier ps k m
        ordered h = named (label_order limit (at k).panel (at m).panel k m (omega (arith, room)) (omega (arith, room)) h)

        back :
            (label limit (at k).panel k < label limit (at m).panel m)
            ⊎ ((label limit (at k).panel k ≡ label limit (at m).panel m) × (k < m)) →
            Earlier ps k m
        back (inl l) = ordered (omega arith)
        back (inr l) = ordered (omega arith)

  module _ (k : ℕ) (hk : k < length ps) where
    has_labelled : Has eye d ps k → Has eye d (labelled limit ps) k
    has_labelled h =
        record {
          is_met = rw (same_met k hk) h.is_met;
          leads = λ m hm f t.
              let l : m < length ps = rw same_length at hm in
              leads_labelled k m hk l (h.leads m l f (rw (same_met m l) at t));
        }

    has_back : Has eye d (labelled limit ps) k → Has eye d ps k
    has_back h =
        record {
          is_met = rw (same_met k hk) at h.is_met;
          leads = λ m hm f t. leads_back k m hk hm f (h.leads m (rw same_length hm) f (rw (same_met m hm) t));
        }

    -- the patch that has the cell is named by the closest label
    pub label_has : 1 ≤ (at k).panel → T (has_cell eye d ps k) ↔ (closest eye d (labelled limit ps) ≡ label limit (at k).panel k)
    label_has positive = (
      λ t. shown k hk (has_labelled ((has_says eye d ps k).0 t)),
      λ e. (has_says eye d ps k).1 (go e (none_or_one eye d (labelled limit ps))),
    )
      where
        shown : (m : ℕ) → m < length ps → Has eye d (labelled limit ps) m → closest eye d (labelled limit ps) ≡ label limit (at m).panel m
        shown m hm h = has_panel eye d (labelled limit ps) m (rw same_length hm) h ∙ ap (λ (p : Patch). p.panel) (labelled_at m hm)

        go : closest eye d (labelled limit ps) ≡ label limit (at k).panel k → NoneOrOne eye d (labelled limit ps) → Has eye d ps k
        go e (inl f) =
            absurd (omega (arith, closest_only eye d (labelled limit ps) (none_met f), mul-le-mul positive (le_refl limit)))
        go e (inr (m, hm, h)) =
            let l : m < length ps = rw same_length at hm in
            let same : m ≡ k =
            one_label limit (at m).panel (at k).panel m k (omega arith) (omega arith) (sym (shown m l h) ∙ e) in
            has_back (subst (Has eye d (labelled limit ps)) same h)
