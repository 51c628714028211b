-- After questions 1 and 2 the byte string is a header and three tables.
use mathlib.Core.Path.{◌≡◌, refl, sym, ap}
use mathlib.Core.Bool.{Bool, true, ◌&&◌}
use mathlib.Core.List.{List, map}
use Prim.Native.Nat.{ℕ, ◌+◌, ◌*◌, ◌%◌, ◌/◌, ◌≤◌}
use native.Mathlib.Omega.{arith}
use lib.Dec.{eqb, leb}
use lib.ListN.{length}
use borrow.Author.Tests.{leb-true, eqb-true}
use Rattle.model.specs.Lists.{range}
use Rattle.model.specs.Format.{Section, header_of, records_of, node_at, patch_at, point_at, decode}
use Rattle.model.specs.Questions.{has_header, has_sections, is_section, within, section_end}
use Rattle.model.proofs.Tests.{both_true}
use Rattle.header.specs.declared.Header.{Header}
use Rattle.format.specs.declared.layout.Layout.{Layout}
use Rattle.header.specs.Header.{HeaderIs}
use Rattle.format.specs.Layout.{LaidOut, patches_start, corners_start}

-- what three tests that hold together tell, and four
three : (a b c : Bool) → (a && b && c) ≡ true → (a ≡ true) × (b ≡ true) × (c ≡ true)
three a b c e =
    let p = both_true (a && b) c e in
    let q = both_true a b p.0 in
    (q.0, q.1, p.1)

four : (a b c d : Bool) → (a && b && c && d) ≡ true → (a ≡ true) × (b ≡ true) × (c ≡ true) × (d ≡ true)
four a b c d e =
    let p = both_true (a && b && c) d e in
    let q = three a b c p.0 in
    (q.0, q.1, q.2, p.1)

-- what question 1 tells
record HasHeader (bytes : List ℕ) : Type 0 where
  long : 32 ≤ length bytes
  whole : (header_of bytes).whole ≡ length bytes

has_header_lem : (bytes : List ℕ) → has_header bytes ≡ true → HasHeader bytes
unfolding has_header
has_header_lem bytes passed =
    let h = header_of bytes in
    let n = length bytes in
    let t = four (within 32 57376 n) (eqb h.version 1) (eqb h.reserved 0) (eqb h.whole n) passed in
    record { long = leb-true 32 n (both_true (leb 32 n) (leb n 57376) t.0).0; whole = eqb-true h.whole n t.3 }

pub header_inside : (bytes : List ℕ) → has_header bytes ≡ true → 32 ≤ length bytes
header_inside bytes passed = (has_header_lem bytes passed).long

-- what the test of one section tells
record IsSection (start step most : ℕ) (s : Section) : Type 0 where
  begins : s.offset ≡ start
  records : s.size % step ≡ 0
  few : s.size / step ≤ most

is_section_lem : {start step most : ℕ} {s : Section} → is_section start step most s ≡ true → IsSection start step most s
unfolding is_section
is_section_lem {start} {step} {most} {s} e =
    let t = three (eqb s.offset start) (eqb (s.size % step) 0) (leb (s.size / step) most) e in
    record {
      begins = eqb-true s.offset start t.0;
      records = eqb-true (s.size % step) 0 t.1;
      few = leb-true (s.size / step) most t.2;
    }

-- what question 2 tells
record HasSections (bytes : List ℕ) : Type 0 where
  nodes : IsSection 32 26 1024 (header_of bytes).node_section
  patches : IsSection (section_end (header_of bytes).node_section) 6 1024 (header_of bytes).patch_section
  corners : IsSection (section_end (header_of bytes).patch_section) 6 4096 (header_of bytes).corner_section
  ends : section_end (header_of bytes).corner_section ≡ (header_of bytes).whole

has_sections_lem : (bytes : List ℕ) → has_sections bytes ≡ true → HasSections bytes
unfolding has_sections
has_sections_lem bytes passed =
    let h = header_of bytes in
    let t =
    four (is_section 32 26 1024 h.node_section) (is_section (section_end h.node_section) 6 1024 h.patch_section)
    (is_section (section_end h.patch_section) 6 4096 h.corner_section)
    (eqb (section_end h.corner_section) h.whole) passed
    in
    record {
      nodes = is_section_lem t.0;
      patches = is_section_lem t.1;
      corners = is_section_lem t.2;
      ends = eqb-true (section_end h.corner_section) h.whole t.3;
    }

-- the records of a section at a known place
records_at : {A : Type 0} (read : List ℕ → ℕ → A) (step : ℕ) (bytes : List ℕ) (s : Section) {start count : ℕ} →
    s.offset ≡ start → count ≡ s.size / step →
    records_of read step bytes s ≡ map (λ (k : ℕ). read bytes (start + step * k)) (range 0 count)
unfolding records_of
records_at read step bytes s o n = λ i. map (λ (k : ℕ). read bytes (o i + step * k)) (range 0 (sym n i))

module _ (bytes : List ℕ) (header : HasHeader bytes) (sections : HasSections bytes) (l : Layout)
    (en : l.nodes ≡ (header_of bytes).node_section.size / 26)
    (size : l.patch_size ≡ 6)
    (ep : l.patches ≡ (header_of bytes).patch_section.size / 6)
    (ec : l.corners ≡ (header_of bytes).corner_section.size / 6) where
  patches_start_lem : (header_of bytes).patch_section.offset ≡ patches_start l
  patches_start_lem = omega arith

  corners_start_lem : (header_of bytes).corner_section.offset ≡ corners_start l
  corners_start_lem = rw size (omega (arith, patches_start_lem))

  laid_out : LaidOut bytes l
  unfolding decode
  laid_out =
      record {
        sized = size;
        whole = omega (arith, corners_start_lem);
        few_nodes = omega arith;
        few_patches = omega arith;
        few_corners = omega arith;
        nodes = records_at node_at 26 bytes _ sections.nodes.begins en;
        patches = rw size (records_at patch_at 6 bytes _ patches_start_lem ep);
        corners = records_at point_at 6 bytes _ corners_start_lem ec;
      }

-- the counts by the machine's header
pub layout_of : (bytes : List ℕ) {h : Header} → (has_header bytes ≡ true) × (has_sections bytes ≡ true) → HeaderIs (header_of bytes) h →
    LaidOut bytes (record { nodes = h.nodes.size / 26; patches = h.patches.size / 6; corners = h.corners.size / 6; patch_size = 6 })
layout_of bytes passed is =
    laid_out bytes (has_header_lem bytes passed.0) (has_sections_lem bytes passed.1) _
    (ap (λ (s : Section). s.size / 26) is.nodes.value)
    refl
    (ap (λ (s : Section). s.size / 6) is.patches.value)
    (ap (λ (s : Section). s.size / 6) is.corners.value)
