-- A row painted patch after patch: after each patch of the walk it is what the patches so far leave.
use mathlib.Core.Path.{◌≡◌, sym, ap, subst, ◌∙◌}
use mathlib.Core.Logic.{◌⊎◌, inl, inr}
use mathlib.Core.Bool.{true, false, cond, ◌&&◌}
use mathlib.Core.List.{List, [], ◌∷◌, ◌++◌, map, map-append}
use Prim.Native.Nat.{ℕ, ◌+◌, ◌≤◌, ◌<◌}
use native.Mathlib.Numerals.{add-one}
use native.Mathlib.Omega.{arith}
use lib.Dec.{eqb}
use lib.ListN.{length, get_or, take, drop, replicate, length-replicate, take-append-drop}
use lib.Seq.{ext_get_or, take-suc, take_all}
use Rattle.model.specs.Vector.{Vec}
use Rattle.model.specs.Patch.{Patch}
use Rattle.model.specs.Ray.{met}
use Rattle.model.specs.Row.{row_of}
use Rattle.model.specs.Map.{map_row}
use Rattle.model.proofs.Tables.{length_table, table_at, same_table}
use Rattle.model.proofs.LitMap.{map_congr}
use Rattle.segments.proofs.Rows.{row_congr}
use Rattle.segments.proofs.Full.{first_length}
use Rattle.segments.proofs.Painting.{painted_length, painted_at}
use Rattle.scanline.specs.Shown.{shown_after, unlit_after, RowPainted, PaintedUpTo}
use Rattle.scanline.specs.Laying.{ColumnsPainted}
use Rattle.cells.proofs.Clearing.{zero_table}
use Rattle.scanline.proofs.Columns.{each_lit}
use Rattle.scanline.proofs.FirstShown.{unlit_first, shown_first, unlit_next, shown_next, unlit_stays, shown_stays}

module _ (eye : Vec) (ray : ℕ → Vec) (width : ℕ) where
  none_painted :
      {cells row words : List ℕ} → cells ≡ replicate width 0 → row ≡ row_of width (λ (i : ℕ). true) → words ≡ map_row width (λ (i : ℕ). true) →
      RowPainted eye ray [] width cells row words
  none_painted e f g =
      record {
        cells_are =
            e ∙ sym (zero_table 0 width) ∙ same_table (λ (k : ℕ). 0) (shown_after eye ray []) 0 0 width (λ k h. sym (shown_first eye ray (0 + k)));
        row_is = f ∙ row_congr width _ _ (λ i h. sym (unlit_first eye ray i));
        words_are = g ∙ map_congr width _ _ (λ i h. sym (unlit_first eye ray i));
      }

  module _ (done : List Patch) (p : Patch) {cells row words cells' row' words' : List ℕ} {lit : ℕ} where
    one_more :
        ColumnsPainted (λ (i : ℕ). met eye (ray i) p) p.panel (unlit_after eye ray done) cells row' words' cells' lit →
        RowPainted eye ray done width cells row words → length cells ≡ width →
        RowPainted eye ray (done ++ p ∷ []) width cells' row' words'
    one_more next so_far e =
        record {
          cells_are =
              next.cells_are
              ∙ ext_get_or 0 _ _ (painted_length _ p.panel cells ∙ e ∙ sym (length_table _ 0 width))
              (λ i h.
              let l : i < length cells = omega (arith, painted_length (λ (i : ℕ). unlit_after eye ray done i && met eye (ray i) p) p.panel cells) in
              let w : i < width = omega arith in
              painted_at _ p.panel cells i l
              ∙ ap (cond (unlit_after eye ray done i && met eye (ray i) p) p.panel)
              (ap (λ (cs : List ℕ). get_or cs i 0) so_far.cells_are ∙ table_at (shown_after eye ray done) width i 0 w)
              ∙ sym (shown_next eye ray done p i)
              ∙ sym (table_at (shown_after eye ray (done ++ p ∷ [])) width i 0 w));
          row_is =
              next.row_is
              ∙ rw e (row_congr width _ _ (λ i h. sym (unlit_next eye ray done p i)));
          words_are =
              next.words_are
              ∙ rw e (map_congr width _ _ (λ i h. sym (unlit_next eye ray done p i)));
        }

  -- a full row is what the whole walk leaves
  stays :
      (done rest : List Patch) {cells row words : List ℕ} → ((i : ℕ) → i < width → unlit_after eye ray done i ≡ false) →
      RowPainted eye ray done width cells row words → RowPainted eye ray (done ++ rest) width cells row words
  stays done rest full so_far =
      record {
        cells_are =
            so_far.cells_are
            ∙ same_table (shown_after eye ray done) (shown_after eye ray (done ++ rest)) 0 0 width
            (λ k h. sym (shown_stays eye ray done rest (0 + k) (full (0 + k) (omega arith))));
        row_is =
            so_far.row_is
            ∙ row_congr width _ _ (λ i h. full i h ∙ sym (unlit_stays eye ray done rest i (full i h)));
        words_are =
            so_far.words_are
            ∙ map_congr width _ _ (λ i h. full i h ∙ sym (unlit_stays eye ray done rest i (full i h)));
      }

pub walk_starts :
    {eye : Vec} {ray : ℕ → Vec} {patch : ℕ → Patch} {order cells row words : List ℕ} {width : ℕ} →
    cells ≡ replicate width 0 → row ≡ row_of width (λ (i : ℕ). true) → words ≡ map_row width (λ (i : ℕ). true) →
    PaintedUpTo eye ray patch order width cells row words 0
walk_starts {eye} {ray} {width = width} e f g = record { bound = omega arith; long = ap length e ∙ length-replicate width 0; so_far = none_painted eye ray width e f g }

module _ {eye : Vec} {ray : ℕ → Vec} {patch : ℕ → Patch} {order : List ℕ} {width : ℕ} where
  module _ {cells row words : List ℕ} {k : ℕ} (inv : PaintedUpTo eye ray patch order width cells row words k) where
    -- where its first segment has length 0, no column is unlit
    pub row_full : width ≤ 256 → get_or row 1 0 ≡ 0 → (i : ℕ) → i < width → unlit_after eye ray (map patch (take k order)) i ≡ false
    row_full narrow z =
        each_lit width (unlit_after eye ray (map patch (take k order)))
        (sym (first_length width narrow (unlit_after eye ray (map patch (take k order)))) ∙ ap (λ (l : List ℕ). eqb (get_or l 1 0) 0) (sym inv.so_far.row_is) ∙ ap (λ (n : ℕ). eqb n 0) z)

    -- a row painted with the whole walk, or a full one
    pub walk_ends :
        (length order ≤ k) ⊎ ((i : ℕ) → i < width → unlit_after eye ray (map patch (take k order)) i ≡ false) →
        RowPainted eye ray (map patch order) width cells row words
    walk_ends (inl h) = rw (take_all k order h) at inv.so_far
    walk_ends (inr full) =
        subst (λ (ps : List Patch). RowPainted eye ray ps width cells row words)
        (sym (map-append patch (take k order) (drop k order)) ∙ ap (map patch) (take-append-drop k order))
        (stays eye ray width (map patch (take k order)) (map patch (drop k order)) full inv.so_far)

    module _ (h : k < length order) where
      taken : map patch (take k order) ++ patch (get_or order k 0) ∷ [] ≡ map patch (take (k + 1) order)
      taken = rw (add-one k, take-suc order k 0 h) (sym (map-append patch (take k order) (get_or order k 0 ∷ [])))

      -- the next patch is painted over the columns that are unlit
      pub walk_goes :
          {cells' row' words' : List ℕ} {lit : ℕ} →
          ColumnsPainted (λ (i : ℕ). met eye (ray i) (patch (get_or order k 0))) (patch (get_or order k 0)).panel
          (unlit_after eye ray (map patch (take k order))) cells row' words' cells' lit →
          PaintedUpTo eye ray patch order width cells' row' words' (k + 1)
      walk_goes next =
          record {
            bound = omega arith;
            long = ap length next.cells_are ∙ painted_length _ (patch (get_or order k 0)).panel cells ∙ inv.long;
            so_far = rw taken at (one_more eye ray width (map patch (take k order)) (patch (get_or order k 0)) next inv.so_far inv.long);
          }

-- a full row stays full
pub full_more :
    (eye : Vec) (ray : ℕ → Vec) (patch : ℕ → Patch) (order : List ℕ) {width k : ℕ} → k < length order →
    ((i : ℕ) → i < width → unlit_after eye ray (map patch (take k order)) i ≡ false) →
    (i : ℕ) → i < width → unlit_after eye ray (map patch (take (k + 1) order)) i ≡ false
full_more eye ray patch order {k = k} h full i l =
    ap (λ (ps : List Patch). unlit_after eye ray ps i)
    (rw (add-one k, take-suc order k 0 h) (map-append patch (take k order) (get_or order k 0 ∷ [])))
    ∙ unlit_stays eye ray (map patch (take k order)) (patch (get_or order k 0) ∷ []) i (full i l)
