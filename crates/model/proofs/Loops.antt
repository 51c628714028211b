-- Tests put one after another: two or three of them, and one test at each of n entries, with the loop that stops at the first no.
use mathlib.Core.Path.{◌≡◌, refl, sym, ap, ap₂, ◌∙◌}
use mathlib.Core.Bool.{Bool, true, false, ◌&&◌, and-false}
use mathlib.Core.List.{List, [], ◌∷◌, map}
use Prim.Native.Nat.{ℕ, zero, suc, ◌+◌, ◌-◌, ◌≤◌, ◌<◌}
use native.Mathlib.Nat.{zero-add}
use native.Mathlib.Decide.{ℕ_discrete}
use native.Mathlib.Omega.{arith}
use borrow.Author.Count.{below_none, below_more}
use Rattle.model.specs.Lists.{every, range}
use Rattle.model.proofs.Tests.{both_true}

-- ---- two tests, and three

-- the whole test is one test and then another
pub record IsBoth (first second whole : Bool) : Type 0 where
  pub both_tests : whole ≡ (first && second)

module _ {first second whole : Bool} (is : IsBoth first second whole) where
  pub first_no : {a : Bool} → a ≡ first → a ≡ false → false ≡ whole
  first_no e f = rw (is.both_tests, ← e, f)

  pub second_decides : {a b : Bool} → a ≡ first → a ≡ true → b ≡ second → b ≡ whole
  second_decides e t h = rw (is.both_tests, ← e, t) h

  pub both_yes : whole ≡ true → (first ≡ true) × (second ≡ true)
  both_yes t = both_true first second (sym is.both_tests ∙ t)

-- the same of three tests
pub record IsThree (first second third whole : Bool) : Type 0 where
  pub three_tests : whole ≡ (first && second && third)

module _ {first second third whole : Bool} (is : IsThree first second third whole) where
  pub first_of_three : {a : Bool} → a ≡ first → a ≡ false → false ≡ whole
  first_of_three e f = rw (is.three_tests, ← e, f)

  pub second_of_three : {b : Bool} → b ≡ second → b ≡ false → false ≡ whole
  second_of_three e f = rw (is.three_tests, ← e, f, and-false)

  pub third_decides : {a b c : Bool} → a ≡ first → a ≡ true → b ≡ second → b ≡ true → c ≡ third → c ≡ whole
  third_decides e t h u k = rw (is.three_tests, ← e, t, ← h, u) k

-- ---- a test at every number of a range
module _ (test : ℕ → Bool) where
  pub range_passes : (i n : ℕ) → ((k : ℕ) → i ≤ k → k < i + n → test k ≡ true) → every test (range i n) ≡ true
  range_passes i zero h = refl
  range_passes i (suc n) h =
      ap₂ ◌&&◌ (h i (omega arith) (omega arith)) (range_passes (suc i) n (λ k a b. h k (omega arith) (omega arith)))

  pub range_fails : (i n k : ℕ) → i ≤ k → k < i + n → test k ≡ false → every test (range i n) ≡ false
  range_fails i zero k a b e = absurd (omega arith)
  range_fails i (suc n) k a b e = go (ℕ_discrete i k) (λ h. range_fails (suc i) n k h (omega arith) e)
    where
      go : Dec (i ≡ k) → (suc i ≤ k → every test (range (suc i) n) ≡ false) → every test (range i (suc n)) ≡ false
      go (yes p) rest = ap (λ (t : Bool). t && every test (range (suc i) n)) (ap test p ∙ e)
      go (no p) rest = ap (λ (t : Bool). test i && t) (rest (omega arith)) ∙ and-false (test i)

pub range_same :
    (test other : ℕ → Bool) (i n : ℕ) →
    ((k : ℕ) → i ≤ k → k < i + n → test k ≡ other k) →
    every test (range i n) ≡ every other (range i n)
range_same test other i zero h = refl
range_same test other i (suc n) h =
    ap₂ ◌&&◌ (h i (omega arith) (omega arith))
    (range_same test other (suc i) n (λ k a b. h k (omega arith) (omega arith)))

-- ---- a test at each of n entries

-- the whole test is yes exactly where the test of each entry is
pub record IsEvery (n : ℕ) (test : ℕ → Bool) (whole : Bool) : Type 0 where
  pub one_no : (k : ℕ) → k < n → test k ≡ false → whole ≡ false
  pub all_yes : ((k : ℕ) → k < n → test k ≡ true) → whole ≡ true

-- the n numbers from i on, counted from there
from_place : (test : ℕ → Bool) (i n : ℕ) → IsEvery n (λ (k : ℕ). test (i + k)) (every test (range i n))
from_place test i n =
    record {
      one_no = λ k h e. range_fails test i n (i + k) (omega arith) (omega arith) e;
      all_yes = λ g. range_passes test i n (λ k a b. ap test (split k a) ∙ g (k - i) (omega arith));
    }
  where
    split : (k : ℕ) → i ≤ k → k ≡ i + (k - i)
    split k a = omega arith

module _ {A : Type 0} (test : A → Bool) (f : ℕ → A) where
  tested : (ks : List ℕ) → every test (map f ks) ≡ every (λ (k : ℕ). test (f k)) ks
  tested [] = refl
  tested (k ∷ ks) = ap (λ (t : Bool). test (f k) && t) (tested ks)

  -- the entries that a run of numbers names
  pub every_run :
      (first n : ℕ) {whole : Bool} → whole ≡ every test (map f (range first n)) →
      IsEvery n (λ (k : ℕ). test (f (first + k))) whole
  every_run first n e =
      let r = from_place (λ (k : ℕ). test (f k)) first n in
      let t = e ∙ tested (range first n) in
      record { one_no = λ k h g. t ∙ r.one_no k h g; all_yes = λ g. t ∙ r.all_yes g }

  pub every_entry : (n : ℕ) {whole : Bool} → whole ≡ every test (map f (range 0 n)) → IsEvery n (λ (k : ℕ). test (f k)) whole
  every_entry n e =
      let r = every_run 0 n e in
      record {
        one_no = λ k h g. r.one_no k h (ap (λ (m : ℕ). test (f m)) (zero-add k) ∙ g);
        all_yes = λ g. r.all_yes (λ k h. ap (λ (m : ℕ). test (f m)) (zero-add k) ∙ g k h);
      }

-- the test of the number of each entry
pub every_number : (test : ℕ → Bool) (n : ℕ) → IsEvery n test (every test (range 0 n))
every_number test n = every_entry (λ (b : Bool). b) test n (sym (tested (λ (b : Bool). b) test (range 0 n)))

-- after a yes each entry has passed
pub each : {n : ℕ} {test : ℕ → Bool} {whole : Bool} → IsEvery n test whole → whole ≡ true → (k : ℕ) → k < n → test k ≡ true
each {n} {test} {whole} is t k h = go (test k) refl
  where
    go : (b : Bool) → test k ≡ b → b ≡ true
    go true e = refl
    go false e = sym (is.one_no k h e) ∙ t

-- ---- the loop

-- the first k of n entries have passed
pub record Passed (n : ℕ) (test : ℕ → Bool) (k : ℕ) : Type 0 where
  pub most : k ≤ n
  pub passed : (j : ℕ) → j < k → test j ≡ true

pub none_passed : (n : ℕ) (test : ℕ → Bool) → Passed n test 0
none_passed n test = record { most = omega arith; passed = below_none _ }

module _ {n : ℕ} {test : ℕ → Bool} {k : ℕ} where
  pub one_passed : {b : Bool} → Passed n test k → k < n → b ≡ test k → b ≡ true → Passed n test (k + 1)
  one_passed p h e t = record { most = omega arith; passed = below_more _ k p.passed (sym e ∙ t) }

  pub refused : {whole b : Bool} → IsEvery n test whole → k < n → b ≡ test k → b ≡ false → false ≡ whole
  refused is h e f = sym (is.one_no k h (sym e ∙ f))

  pub accepted : {whole : Bool} → IsEvery n test whole → Passed n test k → n ≤ k → true ≡ whole
  accepted is p h = sym (is.all_yes (λ j b. p.passed j (omega arith)))
