-- Sums over lists, and how tallies add up.
use mathlib.Core.Path.{◌≡◌, refl, sym, ap, ap₂, ◌∙◌}
use mathlib.Core.Logic.{◌⊎◌, inl, inr}
use mathlib.Core.Bool.{Bool, true, false, not, cond}
use mathlib.Core.List.{List, [], ◌∷◌, ◌++◌, map, flatten, sum, Memᴰ}
use Prim.Native.Nat.{ℕ, zero, suc, ◌+◌, ◌*◌, ◌≤◌, ◌<◌}
use native.Mathlib.Nat.{zero-add, add-zero, zero-mul, mul-one, suc-add, eq-or-lt_of_le}
use native.Mathlib.Omega.{arith}
use lib.Dec.{eqb}
use lib.ListN.{length}
use borrow.Author.Tests.{eq-eqb, ne_eqb}
use Rattle.model.specs.Lists.{range, add_if, tally}

-- the sum of a number for each element
unfoldable pub total : {A : Type 0} → (A → ℕ) → List A → ℕ
unfolding sum
total f l = sum ◌+◌ 0 (map f l)

module _ {A : Type 0} where
  pub total_cong : (f g : A → ℕ) (l : List A) → ((a : A) → Memᴰ a l → f a ≡ g a) → total f l ≡ total g l
  unfolding total
  total_cong f g [] h = refl
  total_cong f g (a ∷ l) h = ap₂ ◌+◌ (h a (Memᴰ.head refl)) (total_cong f g l (λ b m. h b (Memᴰ.tail m)))

  pub total_zero : (l : List A) → total (λ (a : A). 0) l ≡ 0
  unfolding total
  total_zero [] = refl
  total_zero (a ∷ l) = zero-add _ ∙ total_zero l

  pub total_add : (f g : A → ℕ) (l : List A) → total (λ (a : A). f a + g a) l ≡ total f l + total g l
  unfolding total
  total_add f g [] = refl
  total_add f g (a ∷ l) = let h : total (λ (a : A). f a + g a) l ≡ total f l + total g l = total_add f g l in omega arith

pub total_map : {A B : Type 0} (f : B → ℕ) (h : A → B) (l : List A) → total f (map h l) ≡ total (λ (a : A). f (h a)) l
unfolding total
total_map f h [] = refl
total_map f h (a ∷ l) = ap (λ (n : ℕ). f (h a) + n) (total_map f h l)

-- a double sum in the other order
pub total_swap :
    {A B : Type 0} (f : A → B → ℕ) (s : List A) (t : List B) →
    total (λ (a : A). total (f a) t) s ≡ total (λ (b : B). total (λ (a : A). f a b) s) t
unfolding total
total_swap f [] t = sym (total_zero t)
total_swap f (a ∷ s) t = ap (λ (n : ℕ). total (f a) t + n) (total_swap f s t) ∙ sym (total_add (f a) (λ b. total (λ a. f a b) s) t)

-- ---- tallies

add_if_add : (b : Bool) (m n : ℕ) → add_if b (m + n) ≡ add_if b m + n
add_if_add true m n = sym (suc-add m n)
add_if_add false m n = refl

module _ {A : Type 0} (test : A → Bool) where
  pub tally_append : (s t : List A) → tally test (s ++ t) ≡ tally test s + tally test t
  tally_append [] t = sym (zero-add _)
  tally_append (a ∷ s) t = ap (add_if (test a)) (tally_append s t) ∙ add_if_add (test a) (tally test s) (tally test t)

  pub tally_flatten : (ls : List (List A)) → tally test (flatten ls) ≡ total (tally test) ls
  unfolding total flatten
  tally_flatten [] = refl
  tally_flatten (l ∷ ls) = tally_append l (flatten ls) ∙ ap (λ (n : ℕ). tally test l + n) (tally_flatten ls)

  pub tally_map : {B : Type 0} (h : B → A) (l : List B) → tally test (map h l) ≡ tally (λ (b : B). test (h b)) l
  tally_map h [] = refl
  tally_map h (b ∷ l) = ap (add_if (test (h b))) (tally_map h l)

  pub tally_most : (l : List A) → tally test l ≤ length l
  tally_most [] = omega arith
  tally_most (a ∷ l) = step (test a) (tally_most l)
    where
      step : (b : Bool) → tally test l ≤ length l → add_if b (tally test l) ≤ suc (length l)
      step true h = omega arith
      step false h = omega arith

-- a length is the tally of all
pub tally_all : {A : Type 0} (l : List A) → tally (λ (a : A). true) l ≡ length l
tally_all [] = refl
tally_all (a ∷ l) = ap suc (tally_all l)

-- an element passes a test or fails it
pub tally_split : {A : Type 0} (test : A → Bool) (l : List A) → tally test l + tally (λ (a : A). not (test a)) l ≡ length l
tally_split test [] = refl
tally_split test (a ∷ l) = step (test a) (tally_split test l)
  where
    step : (b : Bool) → tally test l + tally (λ a. not (test a)) l ≡ length l → add_if b (tally test l) + add_if (not b) (tally (λ a. not (test a)) l) ≡ suc (length l)
    step true h = omega arith
    step false h = omega arith

-- ---- the number where a test passes, 0 elsewhere

abbrev pub only : Bool → ℕ → ℕ
only b n = cond b n 0

pub total_same : {A : Type 0} (test : A → Bool) (v : ℕ) (l : List A) → total (λ (a : A). only (test a) v) l ≡ tally test l * v
unfolding total
total_same test v [] = sym (zero-mul v)
total_same test v (a ∷ l) = step _ _ (test a) (total_same test v l)
  where
    step : (n k : ℕ) (b : Bool) → n ≡ k * v → only b v + n ≡ add_if b k * v
    step n k true h = omega arith
    step n k false h = omega arith

pub tally_total : {A : Type 0} (test : A → Bool) (l : List A) → tally test l ≡ total (λ (a : A). only (test a) 1) l
tally_total test l = sym (total_same test 1 l ∙ mul-one (tally test l))

-- the sum over a range in which only number c counts
module _ (f : ℕ → ℕ) (c : ℕ) where
  missed : (a n : ℕ) → c < a → total (λ (j : ℕ). only (eqb c j) (f j)) (range a n) ≡ 0
  unfolding total
  missed a zero h = refl
  missed a (suc n) h = rw (ne_eqb c a (omega arith), missed (suc a) n (omega arith))

  pub picked : (a n : ℕ) → a ≤ c → (a + n ≤ c → f c ≡ 0) → total (λ (j : ℕ). only (eqb c j) (f j)) (range a n) ≡ f c
  unfolding total
  picked a zero h z = sym (z (omega arith))
  picked a (suc n) h z = go (eq-or-lt_of_le h) (λ l. picked (suc a) n l (λ k. z (omega arith)))
    where
      go :
          (a ≡ c) ⊎ (a < c) →
          (a < c → total (λ (j : ℕ). only (eqb c j) (f j)) (range (suc a) n) ≡ f c) →
          only (eqb c a) (f a) + total (λ (j : ℕ). only (eqb c j) (f j)) (range (suc a) n) ≡ f c
      go (inl e) rest = rw (eq-eqb c a (sym e), missed (suc a) n (omega arith), add-zero) (ap f e)
      go (inr l) rest = rw (ne_eqb c a (omega arith), rest l, zero-add)
