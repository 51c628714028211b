-- The closest patch and the closest panel are those that the relations allow, and the panel depends only on which patches the list holds.
use mathlib.Core.Path.{◌≡◌, refl, sym, ap, subst, ◌∙◌}
use mathlib.Core.Logic.{◌↔◌, ◌⊎◌, inl, inr}
use mathlib.Core.Bool.{Bool, true, false, cond}
use mathlib.Core.List.Memᴰ
use mathlib.Core.List.{List, [], ◌∷◌, ◌++◌, Memᴰ, append_assoc, head-eq_of_cons-eq, tail-eq_of_cons-eq}
use mathlib.Core.Option.{Option, none, some}
use Prim.Native.Nat.{ℕ}
use lib.Dec.{T}
use Rattle.model.specs.Vector.{Vec}
use Rattle.model.specs.Patch.{Patch}
use Rattle.model.specs.Ray.{met, precedes, nearest, closest_patch, panel_of, closest, IsClosest, none_met, shows}
use Rattle.model.proofs.Tests.{is_true, of_cons, of_append, of_one}
use Rattle.model.proofs.Precedes.{precedes_asym, precedes_irrefl, not_precedes, not_precedes_trans, level_panels}

-- The closest patch, as a relation: it is met, no met patch of the list precedes it, and it precedes every met patch that stands before it in the list.
pub record IsClosestPatch (eye d : Vec) (ps : List Patch) (p : Patch) : Type 0 where
  pub before : List Patch
  pub after : List Patch
  pub place : ps ≡ before ++ p ∷ after
  pub is_met : T (met eye d p)
  pub least : (q : Patch) → Memᴰ q ps → T (met eye d q) → T (precedes eye d q p) → ⊥
  pub earliest : (q : Patch) → Memᴰ q before → T (met eye d q) → T (precedes eye d p q)

-- two elements of a list, each with what stands before it: they are one, or one stands before the other
parted :
    {A : Type 0} {x y : A} (before after before' after' : List A) →
    before ++ x ∷ after ≡ before' ++ y ∷ after' →
    (x ≡ y) ⊎ (Memᴰ x before' ⊎ Memᴰ y before)
parted [] after [] after' e = inl (head-eq_of_cons-eq e)
parted [] after (b ∷ before') after' e = inr (inl (Memᴰ.head (head-eq_of_cons-eq e)))
parted (a ∷ before) after [] after' e = inr (inr (Memᴰ.head (sym (head-eq_of_cons-eq e))))
parted {x} {y} (a ∷ before) after (b ∷ before') after' e =
    further (parted before after before' after' (tail-eq_of_cons-eq e))
  where
    further :
        (x ≡ y) ⊎ (Memᴰ x before' ⊎ Memᴰ y before) →
        (x ≡ y) ⊎ (Memᴰ x (b ∷ before') ⊎ Memᴰ y (a ∷ before))
    further (inl h) = inl h
    further (inr (inl m)) = inr (inl (Memᴰ.tail m))
    further (inr (inr m)) = inr (inr (Memᴰ.tail m))

module _ (eye d : Vec) where
  -- no patch of the list is met
  abbrev pub NoneMet : List Patch → Type 0
  NoneMet ps = (q : Patch) → Memᴰ q ps → T (met eye d q) → ⊥

  -- what the relations say of an answer, a patch or none
  abbrev pub Found : List Patch → Option Patch → Type 0
  Found ps none = NoneMet ps
  Found ps (some p) = IsClosestPatch eye d ps p

  -- where q is met, p precedes it; where q is met, it does not precede p
  abbrev pub Hides : Patch → Patch → Type 0
  Hides p q = T (met eye d q) → T (precedes eye d p q)

  abbrev NotHidden : Patch → Patch → Type 0
  NotHidden p q = T (met eye d q) → T (precedes eye d q p) → ⊥

  -- the closest patch of a list stays so behind patches that it hides
  pub closest_patch_behind :
      (xs : List Patch) {ys : List Patch} {p : Patch} →
      IsClosestPatch eye d ys p →
      ((x : Patch) → Memᴰ x xs → Hides p x) →
      IsClosestPatch eye d (xs ++ ys) p
  closest_patch_behind xs {p} c f =
      record {
        before = xs ++ c.before;
        after = c.after;
        place = ap (λ (zs : List Patch). xs ++ zs) c.place ∙ sym (append_assoc xs c.before (p ∷ c.after));
        is_met = c.is_met;
        least = of_append (NotHidden p) xs (λ q m t. precedes_asym eye d p q (f q m t)) c.least;
        earliest = of_append (Hides p) xs f c.earliest;
      }

  -- and before patches that do not hide it
  pub closest_patch_before :
      {xs : List Patch} (ys : List Patch) {p : Patch} →
      IsClosestPatch eye d xs p →
      ((y : Patch) → Memᴰ y ys → NotHidden p y) →
      IsClosestPatch eye d (xs ++ ys) p
  closest_patch_before {xs} ys {p} c f =
      record {
        before = c.before;
        after = c.after ++ ys;
        place = ap (λ (zs : List Patch). zs ++ ys) c.place ∙ append_assoc c.before (p ∷ c.after) ys;
        is_met = c.is_met;
        least = of_append (NotHidden p) xs c.least f;
        earliest = c.earliest;
      }

  pub closest_patch_alone : (p : Patch) → T (met eye d p) → IsClosestPatch eye d (p ∷ []) p
  closest_patch_alone p t =
      record {
        before = [];
        after = [];
        place = refl;
        is_met = t;
        least = of_one (NotHidden p) (λ m. precedes_irrefl eye d p);
        earliest = λ q m. absurd (Memᴰ.not-nil m);
      }

  nearest_found :
      (p : Patch) (ps : List Patch) (m : Bool) (o : Option Patch) →
      met eye d p ≡ m →
      Found ps o →
      Found (p ∷ ps) (nearest eye d m p o)
  unfolding nearest
  nearest_found p ps false none e f = of_cons (λ (q : Patch). T (met eye d q) → ⊥) (λ t. subst T e t) f
  nearest_found p ps false (some q) e f =
      closest_patch_behind (p ∷ []) f (of_one (Hides q) (λ t. absurd (subst T e t)))
  nearest_found p ps true none e f =
      closest_patch_before ps (closest_patch_alone p (is_true e)) (λ y m t. absurd (f y m t))
  nearest_found p ps true (some q) e f = go (precedes eye d q p) refl
    where
      go : (b : Bool) → precedes eye d q p ≡ b → Found (p ∷ ps) (cond b (some q) (some p))
      go true h = closest_patch_behind (p ∷ []) f (of_one (Hides q) (λ t. is_true h))
      go false h =
          closest_patch_before ps (closest_patch_alone p (is_true e))
          (λ y m t. not_precedes_trans eye d y q p t f.is_met (is_true e) (f.least y m t) (λ u. subst T h u))

  pub closest_patch_found : (ps : List Patch) → Found ps (closest_patch eye d ps)
  unfolding closest_patch
  closest_patch_found [] = λ q m. absurd (Memᴰ.not-nil m)
  closest_patch_found (p ∷ ps) = nearest_found p ps (met eye d p) (closest_patch eye d ps) refl (closest_patch_found ps)

  pub closest_patch_member : {ps : List Patch} {p : Patch} → IsClosestPatch eye d ps p → Memᴰ p ps
  closest_patch_member c = rw c.place (Memᴰ.append_right c.before (Memᴰ.head refl))

  found_only : (ps : List Patch) (o o' : Option Patch) → Found ps o → Found ps o' → o ≡ o'
  found_only ps none none f g = refl
  found_only ps none (some q) f g = absurd (f q (closest_patch_member g) g.is_met)
  found_only ps (some p) none f g = absurd (g p (closest_patch_member f) f.is_met)
  found_only ps (some p) (some q) f g =
      go (parted f.before f.after g.before g.after (sym f.place ∙ g.place))
    where
      go : (p ≡ q) ⊎ (Memᴰ p g.before ⊎ Memᴰ q f.before) → ◌≡◌ {A = Option Patch} (some p) (some q)
      go (inl e) = ap some e
      go (inr (inl m)) = absurd (f.least q (closest_patch_member g) g.is_met (g.earliest p m f.is_met))
      go (inr (inr m)) = absurd (g.least p (closest_patch_member f) f.is_met (f.earliest q m g.is_met))

  -- the closest patch, or none, is the one answer that the relations allow
  pub closest_patch_is : (ps : List Patch) (o : Option Patch) → (closest_patch eye d ps ≡ o) ↔ Found ps o
  closest_patch_is ps o = (
    λ e. subst (Found ps) e (closest_patch_found ps),
    λ f. found_only ps (closest_patch eye d ps) o (closest_patch_found ps) f,
  )

  pub closest_patch_some : (ps : List Patch) (p : Patch) → (closest_patch eye d ps ≡ some p) ↔ IsClosestPatch eye d ps p
  closest_patch_some ps p = closest_patch_is ps (some p)

  panel_right : (ps : List Patch) (o : Option Patch) → Found ps o → IsClosest eye d ps (panel_of o)
  unfolding panel_of
  panel_right ps none f = none_met f
  panel_right ps (some p) f =
      shows p (closest_patch_member f) f.is_met (λ q m t. ((not_precedes eye d q p).0 (f.least q m t)).0)
      (λ q m t. ((not_precedes eye d q p).0 (f.least q m t)).1)

  panel_only : (ps : List Patch) (o : Option Patch) {n : ℕ} → Found ps o → IsClosest eye d ps n → n ≡ panel_of o
  unfolding panel_of
  panel_only ps none f (none_met g) = refl
  panel_only ps (some p) f (none_met g) = absurd (g p (closest_patch_member f) f.is_met)
  panel_only ps none f (shows q m t near low) = absurd (f q m t)
  panel_only ps (some p) f (shows q m t near low) =
      let k = closest_patch_member f in
      level_panels eye d q p (f.least q m t)
      ((not_precedes eye d p q).1 (near p k f.is_met, low p k f.is_met))

  -- the closest panel is the one number that the relation allows
  pub closest_right : (ps : List Patch) → IsClosest eye d ps (closest eye d ps)
  unfolding closest
  closest_right ps = panel_right ps (closest_patch eye d ps) (closest_patch_found ps)

  pub closest_only : (ps : List Patch) {n : ℕ} → IsClosest eye d ps n → n ≡ closest eye d ps
  unfolding closest
  closest_only ps c = panel_only ps (closest_patch eye d ps) (closest_patch_found ps) c

  -- a part of a list that keeps what it holds of the number's panel
  kept_part :
      {xs ys : List Patch} {n : ℕ} →
      ((p : Patch) → Memᴰ p xs → p.panel ≡ n → Memᴰ p ys) →
      ((p : Patch) → Memᴰ p ys → Memᴰ p xs) →
      IsClosest eye d xs n →
      IsClosest eye d ys n
  kept_part f g (none_met h) = none_met (λ q m. h q (g q m))
  kept_part f g (shows p m t near low) =
      shows p (f p m refl) t (λ q k. near q (g q k)) (λ q k. low q (g q k))

  -- patches of other panels may be taken away: the closest panel stays
  pub closest_part :
      (xs ys : List Patch) →
      ((p : Patch) → Memᴰ p xs → p.panel ≡ closest eye d xs → Memᴰ p ys) →
      ((p : Patch) → Memᴰ p ys → Memᴰ p xs) →
      closest eye d xs ≡ closest eye d ys
  closest_part xs ys f g = closest_only ys (kept_part f g (closest_right xs))

  -- the closest panel depends only on which patches the list holds: their order and repetition are without effect
  pub closest_members :
      (xs ys : List Patch) →
      ((p : Patch) → Memᴰ p xs → Memᴰ p ys) →
      ((p : Patch) → Memᴰ p ys → Memᴰ p xs) →
      closest eye d xs ≡ closest eye d ys
  closest_members xs ys f g = closest_part xs ys (λ p m e. f p m) g
