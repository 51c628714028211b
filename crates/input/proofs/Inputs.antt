-- The survey call's contract, on the call that an input asks for.
use mathlib.Core.Path.{◌≡◌, refl, sym, ◌∙◌, ap}
use mathlib.Core.List.{List}
use Prim.Native.Nat.{ℕ, zero, suc, ◌-◌, ◌*◌, ◌^◌, ◌<◌, min}
use lib.ListN.{length, take, drop, length-drop}
use lib.Seq.{take-length}
use lib.IntN.{ℤ}
use lib.Signed.{mag}
use mir.Syntax.{w16}
use mir.Val.{hbits, to_z, of_z}
use mir.ValLaws.{to_z-of_z}
use Rattle.model.specs.Vector.{Vec, vec}
use Rattle.model.specs.Station.{units}
use Rattle.model.specs.Call.{Call}
use Rattle.model.specs.Format.{u16_at, i16_at, decode}
use Rattle.model.specs.Questions.{scene_answer, survey_answer}
use Rattle.model.specs.Survey.{call_picture, call_counts}
use Rattle.model.specs.Lent.{Lent}
use Rattle.contract.specs.Contract.{lent_of, results, left_by, Surveyed}
use Rattle.input.specs.Input.{one_tile, input_call, counts_by, input_counts}
use Rattle.input.proofs.Caps.{lending, asked, capped_answer}

-- the counts of what is left
counts_left : (n : ℕ) (new old : Lent) → (left_by n new old).counts ≡ counts_by n new.counts old.counts
counts_left zero new old = refl
counts_left (suc n) new old = refl

-- a coordinate read and handed on, as a word
pub coordinate : {z v : ℤ} → mag z < 2 ^ hbits w16 → z ≡ v → to_z w16 (of_z w16 z) ≡ v
coordinate {z} h e = to_z-of_z w16 z (record { sfits = h }) ∙ e

-- all from a place on
pub rest : (n : ℕ) (xs : List ℕ) → take (length xs - n) (drop n xs) ≡ drop n xs
rest n xs = ap (λ (k : ℕ). take k (drop n xs)) (sym (length-drop n xs)) ∙ take-length (drop n xs)

-- a survey with the numbers that stand in the input is the one that the input asks for
pub surveyed_input :
    (input : List ℕ) {bytes picture counts booked unlit lit : List ℕ} {eye : Vec} {w h l r : ℕ} {after : Lent} →
    Surveyed bytes (units eye) (one_tile w h l) (lent_of picture counts booked unlit lit 0) after r →
    bytes ≡ drop 12 input →
    eye ≡ vec (i16_at input 0) (i16_at input 2) (i16_at input 4) →
    w ≡ u16_at input 6 →
    h ≡ u16_at input 8 →
    l ≡ u16_at input 10 →
    length picture ≡ min (w * h) 32768 →
    (scene_answer bytes ≡ 0 → length booked ≡ length (decode bytes).patches) →
    length unlit ≡ min (h * 256) 32768 →
    length lit ≡ min (h * 4) 512 →
    (r ≡ survey_answer (input_call input (length counts))) × (after.counts ≡ input_counts input counts)
unfolding input_call input_counts call_counts call_picture
surveyed_input input {bytes} {picture} {counts} {booked} {unlit} {lit} {eye} {w} {h} {l} s scene eyes width height lens cells told rows words =
    let lent : ℕ → ℕ → ℕ → ℕ → Call = lending bytes eye w h l (length counts) in
    let call : Call = lent (length picture) (length booked) (length unlit) (length lit) in
    let same : asked bytes eye w h l (length counts) ≡ input_call input (length counts) =
    λ i. asked (scene i) (eyes i) (width i) (height i) (lens i) (length counts) in
    let answered : survey_answer call ≡ survey_answer (asked bytes eye w h l (length counts)) =
    (λ i. survey_answer (lent (cells i) (length booked) (rows i) (words i))) ∙ capped_answer bytes eye w h l (length counts) (length booked) told in (
      s.answered ∙ answered ∙ ap survey_answer same,
      ap (λ (x : Lent). x.counts) s.left
          ∙ counts_left (survey_answer call) (results call) (lent_of picture counts booked unlit lit 0)
          ∙ ap (λ (n : ℕ). counts_by n (call_counts call) counts) answered
          ∙ ap (λ (c : Call). counts_by (survey_answer c) (call_counts c) counts) same,
    )
