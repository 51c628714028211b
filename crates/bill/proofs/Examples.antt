-- Worked bills, from the input's bytes.
use mathlib.Core.Path.{◌≡◌, refl}
use mathlib.Core.List.{List, [], ◌++◌}
use Prim.Native.Nat.{ℕ}
use lib.ListN.{take, replicate}
use Rattle.model.specs.Vector.{Vec, origin}
use Rattle.model.proofs.Computing.{everything}
use Rattle.model.proofs.Encode.{u16, point}
use Rattle.model.proofs.Scenes.{scene_s}
use Rattle.text.specs.Text.{ascii, digits_within, decimal, spaced, numbers, line}
use Rattle.input.specs.Input.{input_call}
use Rattle.sheet.specs.Sheet.{panel_line, panel_lines, sheet, refusal}
use Rattle.bill.specs.Bill.{bill_by, call_bill, bill}

-- an input: an eye, the window's three numbers and a scene
abbrev input_of : Vec → ℕ → ℕ → ℕ → List ℕ → List ℕ
input_of eye width height lens scene = point eye ++ u16 width ++ u16 height ++ u16 lens ++ scene

-- "For S below, 4 by 4, lens 4, eye (0,0,0) it prints in full"
pub bill_of_s : bill (input_of origin 4 4 4 scene_s) ≡ ascii "view 4 4 4\n5 4\nnothing 12\ntotal 16\n"
unfolding everything digits_within decimal spaced numbers line input_call panel_line panel_lines sheet refusal bill_by call_bill bill
bill_of_s = refl

-- "257: 10"
pub refused_width : bill (input_of origin 257 4 4 scene_s) ≡ ascii "refused 10\n"
unfolding everything digits_within decimal spaced numbers line input_call refusal bill_by call_bill bill
refused_width = refl

-- "Input under 12 .. bytes prints `refused 1`": none at all, and one byte too few
pub refused_empty : bill [] ≡ ascii "refused 1\n"
unfolding digits_within decimal spaced numbers line refusal bill
refused_empty = refl

pub refused_short : bill (take 11 (input_of origin 4 4 4 scene_s)) ≡ ascii "refused 1\n"
unfolding digits_within decimal spaced numbers line refusal bill
refused_short = refl

-- ".. or over 57,388 bytes": one byte too many
pub refused_long : bill (replicate 57389 0) ≡ ascii "refused 1\n"
unfolding digits_within decimal spaced numbers line refusal bill
refused_long = refl
