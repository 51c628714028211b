-- Who has a cell, as facts: a met patch that leads every other patch that is met.
use mathlib.Core.Path.{◌≡◌, refl, subst}
use mathlib.Core.Logic.{◌↔◌, ◌⊎◌, inl, inr, ⊎_elim}
use mathlib.Core.Bool.{Bool, true, false, not, ◌&&◌, ◌||◌}
use mathlib.Core.List.{List}
use Prim.Native.Nat.{ℕ, zero-le, ◌<◌}
use native.Mathlib.Nat.{zero-add, eq-or-lt_of_le}
use native.Mathlib.Omega.{arith}
use lib.Dec.{T, T_not, not_T, eqb, eqb→eq, eqb_refl, ltb, ltb→lt, lt→ltb}
use lib.ListN.{length}
use Rattle.model.specs.Lists.{every, range}
use Rattle.model.specs.Vector.{Vec}
use Rattle.model.specs.Patch.{Patch, numbered}
use Rattle.model.specs.Ray.{met, distance, precedes}
use Rattle.model.specs.Booking.{shows_before, has_cell}
use Rattle.model.proofs.Tests.{is_true, both, either, every_true}
use Rattle.model.proofs.Ranges.{of_range, in_range}
use Rattle.model.proofs.Precedes.{nearer, Before, precedes_true, not_precedes, below_asym}

-- where the first test fails, the second gives the third
unless : (a b c : Bool) → T (a || not b || c) ↔ ((T a → ⊥) → T b → T c)
unless true b c = (λ t f. absurd (f tt), λ g. tt)
unless false false c = (λ t f u. absurd u, λ g. tt)
unless false true c = (λ t f u. t, λ g. g (λ t. t) tt)

-- patch k comes before patch m by panel and then by place
abbrev pub Earlier : List Patch → ℕ → ℕ → Type 0
Earlier ps k m =
    ((numbered ps k).panel < (numbered ps m).panel) ⊎ (((numbered ps k).panel ≡ (numbered ps m).panel) × (k < m))

module _ (eye d : Vec) (ps : List Patch) where
  abbrev at : ℕ → Patch
  at = numbered ps

  -- patch k is not farther than patch m and, where they are level, comes before it: what "shows before" says
  abbrev pub Leads : ℕ → ℕ → Type 0
  Leads k m = (T (nearer eye d (at m) (at k)) → ⊥) × ((T (nearer eye d (at k) (at m)) → ⊥) → Earlier ps k m)

  pub shows_before_lem : (k m : ℕ) → T (shows_before eye d ps k m) ↔ Leads k m
  shows_before_lem k m = (
    λ t. ⊎_elim ahead level ((either (precedes eye d (at k) (at m)) later).0 t),
    λ h. (either (precedes eye d (at k) (at m)) later).1 (back h (nearer eye d (at k) (at m)) refl),
  )
    where
      later : Bool
      later = not (precedes eye d (at m) (at k)) && ltb k m

      ahead : T (precedes eye d (at k) (at m)) → Leads k m
      ahead t = go ((precedes_true eye d (at k) (at m)).0 t)
        where
          go : Before eye d (at k) (at m) → Leads k m
          go (inl n) = (below_asym (distance eye d (at k)) (distance eye d (at m)) n, λ f. absurd (f n))
          go (inr (f, l)) = (f, λ g. inl l)

      level : T later → Leads k m
      level t =
          let u = (both (not (precedes eye d (at m) (at k))) (ltb k m)).0 t in
          let n = (not_precedes eye d (at m) (at k)).0 (T_not (precedes eye d (at m) (at k)) u.0) in (
            T_not (nearer eye d (at m) (at k)) n.0,
            λ f. go (ltb→lt k m u.1) (eq-or-lt_of_le (n.1 (not_T (nearer eye d (at k) (at m)) f))),
          )
        where
          go : k < m → ((at k).panel ≡ (at m).panel) ⊎ ((at k).panel < (at m).panel) → Earlier ps k m
          go h (inl e) = inr (e, h)
          go h (inr l) = inl l

      back :
          Leads k m →
          (b : Bool) →
          nearer eye d (at k) (at m) ≡ b →
          T (precedes eye d (at k) (at m)) ⊎ T later
      back h true e = inl ((precedes_true eye d (at k) (at m)).1 (inl (is_true e)))
      back h false e = go (h.1 (λ t. subst T e t))
        where
          go : Earlier ps k m → T (precedes eye d (at k) (at m)) ⊎ T later
          go (inl l) = inl ((precedes_true eye d (at k) (at m)).1 (inr (h.0, l)))
          go (inr (p, l)) =
              inr ((both (not (precedes eye d (at m) (at k))) (ltb k m)).1 (
                not_T (precedes eye d (at m) (at k))
                    ((not_precedes eye d (at m) (at k)).1 (not_T (nearer eye d (at m) (at k)) h.0, λ t. omega arith)),
                lt→ltb k m l,
              ))

  -- the test as facts
  pub record Has (k : ℕ) : Type 0 where
    pub is_met : T (met eye d (at k))
    pub leads : (m : ℕ) → m < length ps → (m ≡ k → ⊥) → T (met eye d (at m)) → Leads k m

  pub has_says : (k : ℕ) → T (has_cell eye d ps k) ↔ Has k
  unfolding has_cell
  has_says k = (to, from)
    where
      test : ℕ → Bool
      test m = eqb m k || not (met eye d (at m)) || shows_before eye d ps k m

      numbers : List ℕ
      numbers = range 0 (length ps)

      asked : (m : ℕ) → T (test m) ↔ ((T (eqb m k) → ⊥) → T (met eye d (at m)) → T (shows_before eye d ps k m))
      asked m = unless (eqb m k) (met eye d (at m)) (shows_before eye d ps k m)

      to : T (met eye d (at k) && every test numbers) → Has k
      to t =
          let s = (both (met eye d (at k)) (every test numbers)).0 t in
          record {
            is_met = s.0;
            leads = λ m h f u.
                (shows_before_lem k m).0
                ((asked m).0 ((every_true test numbers).0 s.1 m ((in_range 0 (length ps) m).1 (zero-le, rw zero-add h)))
                (λ e. f (eqb→eq m k e)) u);
          }

      from : Has k → T (met eye d (at k) && every test numbers)
      from h =
          (both (met eye d (at k)) (every test numbers)).1 (
            h.is_met,
            (every_true test numbers).1
                (of_range (λ (m : ℕ). T (test m)) 0 (length ps)
                (λ m l. rw zero-add ((asked m).1 (λ f u. (shows_before_lem k m).1 (h.leads m l (λ e. f (rw e (eqb_refl k))) u))))),
          )
