-- The bill by the input's length and the survey's answer.
use mathlib.Core.Path.{◌≡◌, refl, sym, ◌∙◌, ap}
use mathlib.Core.List.{List}
use mathlib.Core.Logic.{⊎_elim}
use Prim.Native.Nat.{ℕ, zero, suc, ◌≤◌, ◌<◌}
use native.Mathlib.Omega.{arith}
use lib.ListN.{length, take}
use lib.Seq.{take_all, length-take-le}
use borrow.Author.Tests.{le-leb, lt-leb}
use Rattle.model.proofs.Tests.{lt_or_ge}
use Rattle.model.specs.Format.{u16_at}
use Rattle.model.specs.Call.{Call}
use Rattle.model.specs.Picture.{count_entries}
use Rattle.model.specs.Questions.{survey_answer}
use Rattle.model.specs.Survey.{call_counts}
use Rattle.input.specs.Input.{input_call, counts_by, input_counts}
use Rattle.sheet.specs.Sheet.{sheet, refusal}
use Rattle.bill.specs.Bill.{bill_by, call_bill, bill}

pub bill_short : (input : List ℕ) → length input < 12 → refusal 1 ≡ bill input
unfolding bill
bill_short input h = rw (lt-leb 12 (length input) h)

pub bill_long : (input : List ℕ) → 57388 < length input → refusal 1 ≡ bill input
unfolding bill
bill_long input h =
    let more : 12 ≤ length input = omega arith in
    rw (le-leb 12 (length input) more, lt-leb (length input) 57388 h)

-- one byte more than the longest input is enough to read: the bill of that front is the input's
pub bill_of_front : (input : List ℕ) → bill (take 57389 input) ≡ bill input
bill_of_front input = ⊎_elim within beyond (lt_or_ge (length input) 57389)
  where
    within : length input < 57389 → bill (take 57389 input) ≡ bill input
    within h = ap bill (take_all 57389 input (omega arith))

    beyond : 57389 ≤ length input → bill (take 57389 input) ≡ bill input
    beyond h =
        sym (bill_long (take 57389 input) (omega (arith, length-take-le 57389 input h))) ∙ bill_long input (omega arith)

refused_by : (n : ℕ) (accepted : List ℕ) → (n ≡ 0 → ⊥) → refusal n ≡ bill_by n accepted
unfolding bill_by
refused_by zero accepted h = absurd (h refl)
refused_by (suc n) accepted h = refl

-- An input of a fitting length, by the answer to the call that it asks for.
module _ (input : List ℕ) (many : 12 ≤ length input) (few : length input ≤ 57388) where
  abbrev asked : Call
  asked = input_call input count_entries

  -- the bill if the answer is 0
  abbrev accepted : List ℕ
  accepted = sheet (u16_at input 6) (u16_at input 8) (u16_at input 10) (call_counts asked)

  bill_asked : bill_by (survey_answer asked) accepted ≡ bill input
  unfolding bill call_bill input_call
  bill_asked = rw (le-leb 12 (length input) many, le-leb (length input) 57388 few)

  pub bill_refused : {n : ℕ} → n ≡ survey_answer asked → (n ≡ 0 → ⊥) → refusal n ≡ bill input
  bill_refused {n} answered h = refused_by n accepted h ∙ ap (λ (k : ℕ). bill_by k accepted) answered ∙ bill_asked

  pub bill_accepted :
      (before : List ℕ) {n w h l : ℕ} {counts : List ℕ} →
      length before ≡ count_entries →
      n ≡ survey_answer asked →
      n ≡ 0 →
      w ≡ u16_at input 6 →
      h ≡ u16_at input 8 →
      l ≡ u16_at input 10 →
      counts ≡ input_counts input before →
      sheet w h l counts ≡ bill input
  unfolding bill_by input_counts
  bill_accepted before {counts = counts} long answered done width height lens counted =
      let zeroed : survey_answer asked ≡ 0 = sym answered ∙ done in
      let all : counts ≡ call_counts asked =
      counted
      ∙ ap (λ (k : ℕ). counts_by (survey_answer (input_call input k)) (call_counts (input_call input k)) before) long
      ∙ ap (λ (k : ℕ). counts_by k (call_counts asked) before) zeroed in
      (λ i. sheet (width i) (height i) (lens i) (all i)) ∙ ap (λ (k : ℕ). bill_by k accepted) (sym zeroed) ∙ bill_asked
