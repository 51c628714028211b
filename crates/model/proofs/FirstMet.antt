-- The first patch met in a list, and the lists in which it is the closest.
use mathlib.Core.Path.{◌≡◌, refl, sym, ap, subst}
use mathlib.Core.Logic.{inl, inr}
use mathlib.Core.Bool.{Bool, true, false, cond}
use mathlib.Core.List.Memᴰ
use mathlib.Core.List.{List, [], ◌∷◌, ◌++◌, map, Memᴰ}
use mathlib.Core.Option.{Option, none, some}
use Prim.Native.Nat.{ℕ, ◌≤◌}
use native.Mathlib.Nat.{le_trans}
use native.Mathlib.Omega.{arith}
use lib.Dec.{T, leb, leb→le}
use Rattle.model.specs.Vector.{Vec}
use Rattle.model.specs.Patch.{Patch}
use Rattle.model.specs.Ray.{met, precedes, nearest, closest_patch, first_met}
use Rattle.model.specs.Questions.{never_falling}
use Rattle.model.proofs.Tests.{is_true, both, of_cons, of_append}
use Rattle.model.proofs.Precedes.{nearer, Before, precedes_true, precedes_asym}
use Rattle.model.proofs.Closest.{IsClosestPatch, Found, Hides, closest_patch_behind, closest_patch_before, closest_patch_alone, closest_patch_found, closest_patch_member, closest_patch_is, closest_patch_some}

-- the first that is there
abbrev pub or_else : {A : Type 0} → Option A → Option A → Option A
or_else none o = o
or_else (some a) o = some a

pub or_else_assoc : {A : Type 0} (o o' o'' : Option A) → or_else (or_else o o') o'' ≡ or_else o (or_else o' o'')
or_else_assoc none o' o'' = refl
or_else_assoc (some a) o' o'' = refl

-- the first number of a list that never falls is the least
first_least :
    {A : Type 0} (f : A → ℕ) (a : A) (xs : List A) →
    T (never_falling (map f (a ∷ xs))) →
    (x : A) →
    Memᴰ x xs →
    f a ≤ f x
unfolding never_falling
first_least f a [] t = λ x m. absurd (Memᴰ.not-nil m)
first_least {A} f a (b ∷ xs) t =
    let s = (both (leb (f a) (f b)) (never_falling (f b ∷ map f xs))).0 t in
    let h : f a ≤ f b = leb→le (f a) (f b) s.0 in
    of_cons (λ (x : A). f a ≤ f x) h (λ x m. le_trans h (first_least f b xs s.1 x m))

rest_never_falls : (n : ℕ) (ns : List ℕ) → T (never_falling (n ∷ ns)) → T (never_falling ns)
unfolding never_falling
rest_never_falls n [] t = tt
rest_never_falls n (m ∷ ns) t = ((both (leb n m) (never_falling (m ∷ ns))).0 t).1

module _ (eye d : Vec) where
  pub first_met_append : (xs ys : List Patch) → first_met eye d (xs ++ ys) ≡ or_else (first_met eye d xs) (first_met eye d ys)
  unfolding first_met
  first_met_append [] ys = refl
  first_met_append (p ∷ xs) ys = go (met eye d p) (first_met_append xs ys)
    where
      go :
          (b : Bool) →
          first_met eye d (xs ++ ys) ≡ or_else (first_met eye d xs) (first_met eye d ys) →
          cond b (some p) (first_met eye d (xs ++ ys)) ≡ or_else (cond b (some p) (first_met eye d xs)) (first_met eye d ys)
      go true e = refl
      go false e = e

  -- no patch of the list is nearer than another where both are met
  abbrev pub Level : List Patch → Type 0
  Level ps =
      (p q : Patch) →
      Memᴰ p ps →
      Memᴰ q ps →
      T (met eye d p) →
      T (met eye d q) →
      T (nearer eye d p q) →
      ⊥

  -- in a run of level patches whose panels never fall, the first met is the closest
  pub level_run :
      (ps : List Patch) →
      T (never_falling (map (λ (p : Patch). p.panel) ps)) →
      Level ps →
      first_met eye d ps ≡ closest_patch eye d ps
  unfolding first_met closest_patch nearest
  level_run [] t l = refl
  level_run (p ∷ ps) t l =
      go (met eye d p) refl
      (level_run ps (rest_never_falls p.panel (map (λ (q : Patch). q.panel) ps) t)
      (λ x y m k. l x y (Memᴰ.tail m) (Memᴰ.tail k)))
    where
      not_before : (y : Patch) → Memᴰ y ps → T (met eye d p) → T (met eye d y) → Before eye d y p → ⊥
      not_before y m s u (inl n) = l y p (Memᴰ.tail m) (Memᴰ.head refl) u s n
      not_before y m s u (inr h) =
          let k : p.panel ≤ y.panel = first_least (λ (q : Patch). q.panel) p ps t y m in
          omega arith

      shown : T (met eye d p) → IsClosestPatch eye d (p ∷ ps) p
      shown s =
          closest_patch_before eye d ps (closest_patch_alone eye d p s)
          (λ y m u k. not_before y m s u ((precedes_true eye d y p).0 k))

      go :
          (b : Bool) →
          met eye d p ≡ b →
          first_met eye d ps ≡ closest_patch eye d ps →
          cond b (some p) (first_met eye d ps) ≡ nearest eye d b p (closest_patch eye d ps)
      go true e h =
          sym (subst (λ (b : Bool). nearest eye d b p (closest_patch eye d ps) ≡ some p) e
          ((closest_patch_some eye d (p ∷ ps) p).1 (shown (is_true e))))
      go false e h = h

  -- every met patch of the one list precedes every met patch of the other
  abbrev pub Separated : List Patch → List Patch → Type 0
  Separated xs ys =
      (x y : Patch) →
      Memᴰ x xs →
      Memᴰ y ys →
      T (met eye d x) →
      T (met eye d y) →
      T (precedes eye d x y)

  -- of two separated lists, whichever stands first, the closest patch is the preceding one's, or else the other's
  pub closest_patch_separated :
      (xs ys : List Patch) →
      Separated xs ys →
      (closest_patch eye d (xs ++ ys) ≡ or_else (closest_patch eye d xs) (closest_patch eye d ys))
      × (closest_patch eye d (ys ++ xs) ≡ or_else (closest_patch eye d xs) (closest_patch eye d ys))
  closest_patch_separated xs ys sep =
      let found =
      go (closest_patch eye d xs) (closest_patch eye d ys) (closest_patch_found eye d xs) (closest_patch_found eye d ys) in
      ((closest_patch_is eye d (xs ++ ys) _).1 found.0, (closest_patch_is eye d (ys ++ xs) _).1 found.1)
    where
      go :
          (o o' : Option Patch) →
          Found eye d xs o →
          Found eye d ys o' →
          Found eye d (xs ++ ys) (or_else o o') × Found eye d (ys ++ xs) (or_else o o')
      go none none f g = (
        of_append (λ (q : Patch). T (met eye d q) → ⊥) xs f g,
        of_append (λ (q : Patch). T (met eye d q) → ⊥) ys g f,
      )
      go none (some q) f g = (
        closest_patch_behind eye d xs g (λ x m t. absurd (f x m t)),
        closest_patch_before eye d xs g (λ x m t. absurd (f x m t)),
      )
      go (some p) o f g =
          let hides : (y : Patch) → Memᴰ y ys → Hides eye d p y =
          λ y m t. sep p y (closest_patch_member eye d f) m f.is_met t in (
            closest_patch_before eye d ys f (λ y m t. precedes_asym eye d p y (hides y m t)),
            closest_patch_behind eye d ys f hides,
          )

  -- what stands before a list sees no more of it than its closest patch
  pub closest_patch_cong :
      (xs ys zs : List Patch) →
      closest_patch eye d ys ≡ closest_patch eye d zs →
      closest_patch eye d (xs ++ ys) ≡ closest_patch eye d (xs ++ zs)
  unfolding closest_patch
  closest_patch_cong [] ys zs e = e
  closest_patch_cong (p ∷ xs) ys zs e = ap (nearest eye d (met eye d p) p) (closest_patch_cong xs ys zs e)
