-- An accepted scene has the patches that its header tells of.
use mathlib.Core.Path.{◌≡◌}
use mathlib.Core.Bool.{true}
use mathlib.Core.List.{List}
use Prim.Native.Nat.{ℕ, ◌/◌, ◌<◌, min}
use native.Mathlib.Omega.{arith}
use lib.ListN.{length}
use Rattle.model.specs.Format.{header_of, decode}
use Rattle.model.specs.Questions.{has_header, has_sections, scene_answer}
use Rattle.model.proofs.Tests.{true_of}
use Rattle.model.proofs.Answers.{accepted_scene}
use Rattle.header.specs.declared.Header.{Header}
use Rattle.header.specs.Header.{HeaderIs}
use Rattle.format.proofs.Sections.{header_inside, layout_of}
use Rattle.format.proofs.Decoded.{patch_count}

module _ (bytes : List ℕ) (accepted : scene_answer bytes ≡ 0) where
  passed : (has_header bytes ≡ true) × (has_sections bytes ≡ true)
  passed = let h = (accepted_scene bytes).0 accepted in (true_of h.header, true_of h.sections)

  pub none_told : length bytes < 32 → 0 ≡ length (decode bytes).patches
  none_told short = absurd (omega (arith, short, header_inside bytes passed.0))

  pub all_told : {h : Header} {n : ℕ} → HeaderIs (header_of bytes) h → n ≡ min (h.patches.size / 6) 1024 → n ≡ length (decode bytes).patches
  all_told is e =
      let laid = layout_of bytes passed is in
      omega (arith, e, patch_count laid, laid.few_patches)
