-- Lists over a range of numbers: their elements, and rows of one length put one after another.
use mathlib.Core.Path.{◌≡◌, refl, sym, ap, ap₂, subst, ◌∙◌}
use mathlib.Core.Logic.{◌↔◌, ◌⊎◌, inl, inr}
use mathlib.Core.List.{List, [], ◌∷◌, ◌++◌, map, flatten, Memᴰ}
use Prim.Native.Nat.{ℕ, zero, suc, suc-le-suc, ◌+◌, ◌*◌, ◌≤◌, ◌<◌}
use native.Mathlib.Nat.{add-zero, add-suc, suc-add, zero-add, zero-mul, suc-mul, mul-zero, mul-suc, add_comm, add_assoc, not-suc-le-zero, zero-lt-suc, le_of_suc-le-suc, eq-or-lt_of_le}
use native.Mathlib.Omega.{arith}
use lib.ListN.{length, get_or, length-append, get_or-append, take, drop}
use lib.Seq.{take_at, drop-append-add, get_or-append-add, drop-cons, take-length}
use Rattle.model.specs.Lists.{range}
use Rattle.model.proofs.Tests.{of_cons, of_append}

-- ---- elements

pub get_d_member : {A : Type 0} (xs : List A) (k : ℕ) (z : A) → k < length xs → Memᴰ (get_or xs k z) xs
get_d_member [] k z h = absurd (not-suc-le-zero h)
get_d_member (x ∷ xs) zero z h = mathlib.Core.List.Memᴰ.head refl
get_d_member (x ∷ xs) (suc k) z h = mathlib.Core.List.Memᴰ.tail (get_d_member xs k z (le_of_suc-le-suc h))

pub of_map :
    {A B : Type 0} (P : B → Type 0) (f : A → B) (xs : List A) →
    ((x : A) → Memᴰ x xs → P (f x)) →
    (y : B) →
    Memᴰ y (map f xs) →
    P y
of_map P f [] g = λ y m. absurd (mathlib.Core.List.Memᴰ.not-nil m)
of_map P f (x ∷ xs) g = of_cons P (g x (mathlib.Core.List.Memᴰ.head refl)) (of_map P f xs (λ z m. g z (mathlib.Core.List.Memᴰ.tail m)))

pub of_flatten :
    {A : Type 0} (P : A → Type 0) (xss : List (List A)) →
    ((xs : List A) → Memᴰ xs xss → (x : A) → Memᴰ x xs → P x) →
    (x : A) →
    Memᴰ x (flatten xss) →
    P x
unfolding flatten
of_flatten P [] f = λ x m. absurd (mathlib.Core.List.Memᴰ.not-nil m)
of_flatten P (xs ∷ xss) f =
    of_append P xs (f xs (mathlib.Core.List.Memᴰ.head refl)) (of_flatten P xss (λ ys m. f ys (mathlib.Core.List.Memᴰ.tail m)))

-- ---- numbers of a range

next : (a i : ℕ) → suc a + i ≡ a + suc i
next a i = suc-add a i ∙ sym (add-suc a i)

pub range_length : (a n : ℕ) → length (range a n) ≡ n
range_length a zero = refl
range_length a (suc n) = ap suc (range_length (suc a) n)

pub range_at : {A : Type 0} (f : ℕ → A) (a n i : ℕ) (z : A) → i < n → get_or (map f (range a n)) i z ≡ f (a + i)
range_at f a zero i z h = absurd (not-suc-le-zero h)
range_at f a (suc n) zero z h = ap f (sym (add-zero a))
range_at f a (suc n) (suc i) z h = range_at f (suc a) n i z (le_of_suc-le-suc h) ∙ ap f (next a i)

pub of_range :
    (P : ℕ → Type 0) (a n : ℕ) →
    ((i : ℕ) → i < n → P (a + i)) →
    (k : ℕ) →
    Memᴰ k (range a n) →
    P k
of_range P a zero f = λ k m. absurd (mathlib.Core.List.Memᴰ.not-nil m)
of_range P a (suc n) f =
    of_cons P (rw add-zero at (f 0 (zero-lt-suc n)))
    (of_range P (suc a) n (λ i h. subst P (sym (next a i)) (f (suc i) (suc-le-suc h))))

pub range_append : (a b c : ℕ) → range a (b + c) ≡ range a b ++ range (a + b) c
range_append a zero c = rw (zero-add c, add-zero a)
range_append a (suc b) c = rw suc-add (ap (◌∷◌ a) (range_append (suc a) b c ∙ rw (suc-add, add-suc)))

pub in_range : (a n k : ℕ) → Memᴰ k (range a n) ↔ ((a ≤ k) × (k < a + n))
in_range a zero k = (λ m. absurd (mathlib.Core.List.Memᴰ.not-nil m), λ h. absurd (omega arith))
in_range a (suc n) k =
    let rest : Memᴰ k (range (suc a) n) ↔ ((suc a ≤ k) × (k < suc a + n)) = in_range (suc a) n k in
    (λ m. there rest.0 (mathlib.Core.List.Memᴰ.cases_cons m), λ h. back rest.1 (eq-or-lt_of_le h.0) h.1)
  where
    there : (Memᴰ k (range (suc a) n) → (suc a ≤ k) × (k < suc a + n)) → (k ≡ a) ⊎ Memᴰ k (range (suc a) n) → (a ≤ k) × (k < a + suc n)
    there rest (inl e) = omega arith
    there rest (inr m) = let h = rest m in omega arith

    back : ((suc a ≤ k) × (k < suc a + n) → Memᴰ k (range (suc a) n)) → (a ≡ k) ⊎ (a < k) → k < a + suc n → Memᴰ k (a ∷ range (suc a) n)
    back rest (inl e) h = mathlib.Core.List.Memᴰ.head (sym e)
    back rest (inr l) h = mathlib.Core.List.Memᴰ.tail (rest (l, omega arith))

-- the elements that a run of numbers names
pub by_number : {A : Type 0} (l : List A) (d : A) (a n : ℕ) → a + n ≤ length l → map (λ (k : ℕ). get_or l k d) (range a n) ≡ take n (drop a l)
by_number l d a zero h = refl
by_number l d a (suc n) h =
    ap (◌∷◌ (get_or l a d)) (by_number l d (suc a) n (omega arith))
    ∙ sym (ap (take (suc n)) (drop-cons l a d (omega arith)))

pub all_by_number : {A : Type 0} (l : List A) (d : A) → map (λ (k : ℕ). get_or l k d) (range 0 (length l)) ≡ l
all_by_number l d = by_number l d 0 (length l) (omega arith) ∙ take-length l

-- ---- rows of one length, one after another

module _ {A : Type 0} (width : ℕ) (row : ℕ → List A) (row_length_lem : (j : ℕ) → length (row j) ≡ width) where
  pub rows_length : (a height : ℕ) → length (flatten (map row (range a height))) ≡ width * height
  unfolding flatten
  rows_length a zero = sym (mul-zero width)
  rows_length a (suc n) =
      length-append (row a) (flatten (map row (range (suc a) n)))
      ∙ ap₂ ◌+◌ (row_length_lem a) (rows_length (suc a) n)
      ∙ add_comm width (width * n)
      ∙ sym (mul-suc width n)

  -- element i of row j stands at j × width + i
  pub rows_at :
      (a height i j : ℕ) (z : A) →
      i < width →
      j < height →
      get_or (flatten (map row (range a height))) (j * width + i) z ≡ get_or (row (a + j)) i z
  unfolding flatten
  rows_at a zero i j z h k = absurd (not-suc-le-zero k)
  rows_at a (suc n) i zero z h k =
      let l : i < length (row a) = rw row_length_lem h in
      rw (zero-mul, zero-add, add-zero) (get_or-append (row a) (flatten (map row (range (suc a) n))) z i l)
  rows_at a (suc n) i (suc j) z h k =
      let rest : List A = flatten (map row (range (suc a) n)) in
      ap (λ (m : ℕ). get_or (row a ++ rest) m z) place
      ∙ get_or-append-add (row a) rest (j * width + i) z
      ∙ rows_at (suc a) n i j z h (le_of_suc-le-suc k)
      ∙ ap (λ (m : ℕ). get_or (row m) i z) (next a j)
    where
      place : suc j * width + i ≡ length (row a) + (j * width + i)
      place = rw (row_length_lem a, suc-mul, add_comm (j * width) width, add_assoc)

  -- row j is the part from j × width on
  pub rows_part :
      (a height j : ℕ) →
      j < height →
      take width (drop (j * width) (flatten (map row (range a height)))) ≡ row (a + j)
  unfolding flatten
  rows_part a zero j k = absurd (not-suc-le-zero k)
  rows_part a (suc n) zero k =
      rw (zero-mul, add-zero) (take_at (row a) (flatten (map row (range (suc a) n))) width (row_length_lem a))
  rows_part a (suc n) (suc j) k =
      let rest : List A = flatten (map row (range (suc a) n)) in
      ap (λ (m : ℕ). take width (drop m (row a ++ rest))) place
      ∙ ap (λ (l : List A). take width l) (drop-append-add (row a) rest (j * width))
      ∙ rows_part (suc a) n j (le_of_suc-le-suc k)
      ∙ ap row (next a j)
    where
      place : suc j * width ≡ length (row a) + j * width
      place = rw (row_length_lem a, suc-mul, add_comm (j * width) width)
