-- The buffer has room for every bill.
use mathlib.Core.Path.{◌≡◌}
use mathlib.Core.List.{List, [], ◌∷◌}
use Prim.Native.Nat.{ℕ, zero, suc, ◌+◌, ◌-◌, ◌*◌, ◌^◌, ◌≤◌, ◌<◌}
use native.Mathlib.Nat.{mul-le-mul}
use native.Mathlib.Omega.{arith}
use lib.ListN.{length, drop, get_or, length-append, length-drop}
use lib.Seq.{get_or-drop}
use mir.Syntax.{w16, w32}
use mir.Val.{Fits}
use Rattle.text.specs.Text.{ascii, decimal, numbers, line}
use Rattle.text.proofs.Lengths.{decimal_length, newline_length, numbers_length, line_length}
use Rattle.sheet.specs.Sheet.{view_line, panel_line, panel_lines, sheet, refusal}

-- a panel's line is at most 22 bytes long
panel_length : (panel n : ℕ) → panel < 2 ^ 32 → n < 2 ^ 32 → length (panel_line panel n) ≤ 22
unfolding panel_line
panel_length panel zero p h = omega arith
panel_length panel (suc n) p h =
    omega (arith, line_length (decimal panel) (suc n) h, decimal_length panel p)

panels_length :
    (panel : ℕ) (counts : List ℕ) →
    panel + length counts ≤ 2 ^ 32 →
    ((i : ℕ) → Fits w32 (get_or counts i 0)) →
    length (panel_lines panel counts) ≤ 22 * length counts
unfolding panel_lines
panels_length panel [] p h = omega arith
panels_length panel (n ∷ ns) p h =
    simp length-append
    (omega (
      arith,
      panel_length panel n (omega (arith, p)) (h 0).fits,
      panels_length (suc panel) ns (omega (arith, p)) (λ (i : ℕ). h (suc i)),
    ))

-- the product of two 16 bit numbers has 32 bits
pub product_fits : {a b : ℕ} → Fits w16 a → Fits w16 b → Fits w32 (a * b)
product_fits {a} {b} f g =
    let h : a ≤ 65535 = omega (arith, f.fits) in
    let k : b ≤ 65535 = omega (arith, g.fits) in
    record { fits = omega (arith, mul-le-mul h k) }

view_length : (w h l : ℕ) → Fits w16 w → Fits w16 h → Fits w16 l → length (view_line w h l) ≤ 38
unfolding line
view_length w h l p q r =
    omega (
      arith,
      length-append (ascii "view") (numbers (w ∷ h ∷ l ∷ [])),
      newline_length,
      numbers_length w (h ∷ l ∷ []) (omega (arith, p.fits)),
      numbers_length h (l ∷ []) (omega (arith, q.fits)),
      numbers_length l [] (omega (arith, r.fits)),
    )

pub sheet_length :
    {w h l : ℕ} (counts : List ℕ) →
    Fits w16 w →
    Fits w16 h →
    Fits w16 l →
    length counts ≡ 1025 →
    ((i : ℕ) → Fits w32 (get_or counts i 0)) →
    length (sheet w h l counts) ≤ 32768
unfolding sheet
sheet_length {w} {h} {l} counts p q r many few =
    let left : length (drop 1 counts) ≡ length counts - 1 = length-drop 1 counts in
    simp length-append
    (omega (
      arith,
      view_length w h l p q r,
      line_length (ascii "nothing") (get_or counts 0 0) (few 0).fits,
      line_length (ascii "total") (w * h) (product_fits p q).fits,
      panels_length 1 (drop 1 counts) (omega arith) (λ (i : ℕ). rw get_or-drop (few (1 + i))),
    ))

pub refusal_length : {n : ℕ} → Fits w32 n → length (refusal n) ≤ 32768
unfolding refusal
refusal_length {n} f = omega (arith, line_length (ascii "refused") n f.fits)
