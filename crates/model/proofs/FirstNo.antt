-- The answer of a list of questions: the number of one that says no after the earlier ones said yes, and 0 where all do.
use mathlib.Core.Path.{◌≡◌, refl, sym, ◌∙◌, subst}
use mathlib.Core.Bool.{Bool, true, false, not, cond, ◌||◌, true≢false}
use mathlib.Core.List.{List, [], ◌∷◌}
use Prim.Native.Nat.{ℕ}
use lib.Dec.{T, eqb}
use borrow.Author.Tests.{eqb-true, not-true, not-false}
use Rattle.model.specs.Lists.{every}
use Rattle.model.specs.Questions.{Question, answer}
use Rattle.model.proofs.Tests.{is_true, both}
use Rattle.model.proofs.Answers.{answer_yes, answer_no, answer_done}

-- what a question said, by the code's test of its answer: `search said` finds each in a function that returns at the first no
pub said_yes : {a t : Bool} → a ≡ t → not a ≡ false → t ≡ true
said_yes {a} e n = sym e ∙ not-false a n

pub said_no : {a t : Bool} → a ≡ t → not a ≡ true → t ≡ false
said_no {a} e n = sym e ∙ not-true a n

pub ruleset said = (said_yes, said_no)

fails : (b : Bool) → b ≡ false → T b → ⊥
fails true e t = true≢false e
fails false e t = t

module _ {A : Type 0} (a : A) where
  -- every question says yes
  abbrev pub AllYes : List (Question A) → Type 0
  AllYes [] = Unit {0}
  AllYes (q ∷ qs) = (q.test a ≡ true) × AllYes qs

  pub no_no : (qs : List (Question A)) → AllYes qs → 0 ≡ answer qs a
  no_no [] y = sym (answer_done a)
  no_no (q ∷ qs) y = no_no qs y.1 ∙ sym (answer_yes q qs a (is_true y.0))

  -- the questions before the one whose number is n say yes, and that one says no
  abbrev pub RefusedAt : ℕ → List (Question A) → Type 0
  RefusedAt n [] = ⊥
  RefusedAt n (q ∷ qs) =
      elim (eqb q.number n) as (λ (b : Bool). Type 0) [
        | true ↦ q.test a ≡ false
        | false ↦ (q.test a ≡ true) × RefusedAt n qs
      ]

  pub refused_at : (n : ℕ) (qs : List (Question A)) → RefusedAt n qs → n ≡ answer qs a
  refused_at n [] r = absurd r
  refused_at n (q ∷ qs) r = go (eqb q.number n) refl (refused_at n qs) r
    where
      go : (b : Bool) → eqb q.number n ≡ b → (RefusedAt n qs → n ≡ answer qs a) →
          elim b as (λ (b : Bool). Type 0) [ true ↦ q.test a ≡ false | false ↦ (q.test a ≡ true) × RefusedAt n qs ] →
          n ≡ answer (q ∷ qs) a
      go true e rest r = sym (eqb-true q.number n e) ∙ sym (answer_no q qs a (fails (q.test a) r))
      go false e rest r = rest r.1 ∙ sym (answer_yes q qs a (is_true r.0))

-- ---- questions left out

-- the questions but those of a number
abbrev pub without : {A : Type 0} → ℕ → List (Question A) → List (Question A)
without n [] = []
without n (q ∷ qs) = cond (eqb q.number n) (without n qs) (q ∷ without n qs)

-- where those say yes, they may be left out
module _ {A : Type 0} (a : A) (n : ℕ) where
  abbrev yes_at : Question A → Bool
  yes_at q = not (eqb q.number n) || q.test a

  pub without_same : (qs : List (Question A)) → T (every yes_at qs) → answer (without n qs) a ≡ answer qs a
  without_same [] t = refl
  without_same (q ∷ qs) t = go (eqb q.number n) (q.test a) refl ((both (yes_at q) (every yes_at qs)).0 t).0 (without_same qs ((both (yes_at q) (every yes_at qs)).0 t).1)
    where
      go : (here said : Bool) → q.test a ≡ said → T (not here || said) → answer (without n qs) a ≡ answer qs a →
          answer (cond here (without n qs) (q ∷ without n qs)) a ≡ answer (q ∷ qs) a
      go true true s t rest = rest ∙ sym (answer_yes q qs a (is_true s))
      go true false s t rest = absurd t
      go false true s t rest = answer_yes q (without n qs) a (is_true s) ∙ rest ∙ sym (answer_yes q qs a (is_true s))
      go false false s t rest =
          answer_no q (without n qs) a (λ u. subst T s u) ∙ sym (answer_no q qs a (λ u. subst T s u))
