-- The rows of a picture as parts of it: one is put back, and the others stay.
use mathlib.Core.Path.{◌≡◌, sym, ap, ◌∙◌}
use mathlib.Core.Logic.{◌≢◌, ⊎_elim}
use mathlib.Core.List.{List, ◌++◌}
use Prim.Native.Nat.{ℕ, ◌+◌, ◌-◌, ◌*◌, ◌≤◌, ◌<◌}
use native.Mathlib.Nat.{mul-le-mul_right}
use native.Mathlib.Omega.{arith}
use lib.ListN.{length, take, drop, length-take, length-drop}
use lib.Seq.{length-take-le, take-take, take-add, take_at, drop_at, drop-drop}
use borrow.Rule.Slice.PartMut.{put_mid, post_of, same_len_mid, take_put, drop_put}
use Rattle.model.proofs.Tests.{lt_or_ge}
use Rattle.conversion.specs.Canvas.{row_part}

-- the part that is lent for row j
abbrev pub lent_part : ℕ → ℕ → List ℕ → List ℕ
lent_part width j picture = take (j * width + width - j * width) (drop (j * width) picture)

pub lent_is : (width j : ℕ) (picture : List ℕ) → lent_part width j picture ≡ row_part width j picture
lent_is width j picture =
    let e : j * width + width - j * width ≡ width = omega arith in
    ap (λ (n : ℕ). take n (drop (j * width) picture)) e

-- a row of a picture that has all of it
pub part_long : (width j : ℕ) (picture : List ℕ) → j * width + width ≤ length picture → length (row_part width j picture) ≡ width
part_long width j picture h = simp (length-take, length-drop) (omega (arith, h))

-- a row that is one of `height` is inside
pub row_inside : (width n : ℕ) {height j : ℕ} → height * width ≤ n → j < height → j * width + width ≤ n
row_inside width n h b = omega (arith, h, mul-le-mul_right width b)

-- a row by what stands before its end
before_end : (width m : ℕ) (list : List ℕ) → m * width ≤ length list → row_part width m list ≡ drop (m * width) (take (m * width + width) list)
before_end width m list h =
    sym (ap (drop (m * width)) (take-add (m * width) width list) ∙ drop_at (take (m * width) list) _ (m * width) (length-take-le (m * width) list h))

module _ (width j : ℕ) (picture cells : List ℕ) (room : j * width + width ≤ length picture) (long : length cells ≡ width) where
  -- the picture with these cells in row j
  abbrev after : List ℕ
  after = put_mid (j * width) (j * width + width - j * width) picture cells

  pub after_long : length after ≡ length picture
  after_long =
      same_len_mid (j * width) (j * width + width - j * width) picture cells
      (long ∙ sym (ap length (lent_is width j picture) ∙ part_long width j picture room))

  pub part_same : row_part width j after ≡ cells
  part_same =
      ap (take width) (drop_at (take (j * width) picture) (cells ++ post_of (j * width) (j * width + width - j * width) picture) (j * width) (length-take-le (j * width) picture (omega arith)))
      ∙ take_at cells (post_of (j * width) (j * width + width - j * width) picture) width long

  part_above : (m : ℕ) → m < j → row_part width m after ≡ row_part width m picture
  part_above m h =
      let b : m * width + width ≤ j * width = omega (arith, mul-le-mul_right width h) in
      before_end width m after (omega (arith, b, after_long))
      ∙ ap (drop (m * width))
      (sym (take-take (m * width + width) (j * width) after b)
      ∙ ap (take (m * width + width)) (take_put (j * width) (j * width + width - j * width) picture cells (omega arith))
      ∙ take-take (m * width + width) (j * width) picture b)
      ∙ sym (before_end width m picture (omega (arith, b)))

  part_below : (m : ℕ) → j < m → row_part width m after ≡ row_part width m picture
  part_below m h =
      let b : j * width + width ≤ m * width = omega (arith, mul-le-mul_right width h) in
      let e : j * width + width + (m * width - (j * width + width)) ≡ m * width = omega (arith, b) in
      let l : length cells ≡ j * width + width - j * width = omega (arith, long) in
      ap (take width)
      (ap (λ (n : ℕ). drop n after) (sym e)
      ∙ sym (drop-drop (m * width - (j * width + width)) (j * width + width) after)
      ∙ ap (drop (m * width - (j * width + width))) (drop_put (j * width) (j * width + width) picture cells (omega arith) room l)
      ∙ drop-drop (m * width - (j * width + width)) (j * width + width) picture
      ∙ ap (λ (n : ℕ). drop n picture) e)

  pub part_other : (m : ℕ) → m ≢ j → row_part width m after ≡ row_part width m picture
  part_other m f =
      ⊎_elim (λ (h : m < j). part_above m h)
      (λ (h : j ≤ m). part_below m (⊎_elim (λ (l : j < m). l) (λ (l : m ≤ j). absurd (f (omega arith))) (lt_or_ge j m)))
      (lt_or_ge m j)
