-- The patch that has a cell is the first met in the walk: panel numbers that tell the patches apart leave tree and walk as they are, and are proper too.
use mathlib.Core.Path.{◌≡◌, refl, sym, ap, ap₂, ◌∙◌}
use mathlib.Core.Logic.{◌↔◌}
use mathlib.Core.Bool.{Bool, true, false, cond, ◌&&◌}
use mathlib.Core.List.Memᴰ
use mathlib.Core.List.{List, [], ◌∷◌, map, map-map, Memᴰ}
use mathlib.Core.Option.{some}
use Prim.Native.Nat.{ℕ, zero, suc, ◌≤◌, ◌<◌}
use native.Mathlib.Nat.{mul-le-mul, le_refl}
use native.Mathlib.Omega.{arith}
use lib.Dec.{T, eqb, eqb→eq, eqb_refl, leb, leb→le, le→leb}
use lib.ListN.{length, length-map}
use borrow.Author.Tests.{ne_eqb}
use Rattle.model.specs.Lists.{every, range}
use Rattle.model.specs.Vector.{Vec, turned_over}
use Rattle.model.specs.Patch.{Patch, lies_on, flat, strictly_convex, Proper}
use Rattle.model.specs.Ray.{met, panel_of, closest, first_met}
use Rattle.model.specs.Tree.{Tree, leaf, node, contents, map_tree, order, lies_positive, divides}
use Rattle.model.specs.Format.{NodeRecord, Scene, patch_of, patch_table, patch_numbered, number_tree}
use Rattle.model.specs.Questions.{never_falling}
use Rattle.model.specs.Booking.{has_cell, first_is}
use Rattle.model.proofs.Tests.{both, same_test}
use Rattle.model.proofs.Ranges.{get_d_member, of_map}
use Rattle.model.proofs.PanelNumbers.{panel_positive}
use Rattle.model.proofs.Visibility.{ProperNode}
use Rattle.model.proofs.Labels.{label, one_label, relabel, labelled, label_has}
use Rattle.checked.proofs.Subtrees.{run, contents_map}
use Rattle.walk.proofs.Whole.{walk_numbers}
use Rattle.walk.proofs.Seen.{ProperScene, patch_runs, node_proper, divided_tree, walk_closest}

-- labels never fall where panels do not
labels_rise :
    (limit : ℕ) (panel : ℕ → ℕ) (a n : ℕ) →
    T (never_falling (map panel (range a n))) →
    T (never_falling (map (λ (k : ℕ). label limit (panel k) k) (range a n)))
unfolding never_falling
labels_rise limit panel a zero t = tt
labels_rise limit panel a (suc zero) t = tt
labels_rise limit panel a (suc (suc n)) t =
    let s = (both (leb (panel a) (panel (suc a))) (never_falling (map panel (range (suc a) (suc n))))).0 t in
    (both (leb (label limit (panel a) a) (label limit (panel (suc a)) (suc a))) _).1 (
      le→leb (label limit (panel a) a) (label limit (panel (suc a)) (suc a))
          (omega (arith, mul-le-mul (leb→le (panel a) (panel (suc a)) s.0) (le_refl limit))),
      labels_rise limit panel (suc a) (suc n) s.1,
    )

-- a patch stays proper: questions 6, 8 and 9 ask of corners alone
relabel_proper : (limit k : ℕ) (p : Patch) → Proper p → Proper (relabel limit k p)
unfolding lies_on flat strictly_convex
relabel_proper limit k p h = record { counted = h.counted; is_flat = h.is_flat; is_convex = h.is_convex }

module _ (limit : ℕ) (patch : ℕ → Patch) where
  abbrev pub shown : ℕ → Patch
  shown k = relabel limit k (patch k)

  each_alike :
      (test : Patch → Bool) →
      ((k : ℕ) → test (shown k) ≡ test (patch k)) →
      (ks : List ℕ) →
      every test (map shown ks) ≡ every test (map patch ks)
  each_alike test same [] = refl
  each_alike test same (k ∷ ks) = ap₂ ◌&&◌ (same k) (each_alike test same ks)

  below_alike :
      (test : Patch → Bool) →
      ((k : ℕ) → test (shown k) ≡ test (patch k)) →
      (t : Tree ℕ) →
      every test (contents (map_tree shown t)) ≡ every test (contents (map_tree patch t))
  below_alike test same t =
      ap (every test) (contents_map shown t)
      ∙ each_alike test same (contents t)
      ∙ sym (ap (every test) (contents_map patch t))

  divides_alike : (t : Tree ℕ) → divides (map_tree shown t) ≡ divides (map_tree patch t)
  unfolding divides map_tree lies_on lies_positive
  divides_alike leaf = refl
  divides_alike (node s own a b) =
      ap₂ ◌&&◌
      (ap₂ ◌&&◌
      (ap₂ ◌&&◌
      (ap₂ ◌&&◌ (each_alike (lies_on s) (λ k. refl) own) (below_alike (lies_positive s) (λ k. refl) a))
      (below_alike (lies_positive (turned_over s)) (λ k. refl) b))
      (divides_alike a))
      (divides_alike b)

  -- of numbers below the limit, the first met has the label that a walk of labelled patches shows
  module _ (eye d : Vec) (n : ℕ) (below : n < limit) (positive : 1 ≤ (patch n).panel) where
    same_label : (k : ℕ) → k < limit → eqb (shown k).panel (shown n).panel ≡ eqb k n
    same_label k h =
        same_test (eqb (shown k).panel (shown n).panel) (eqb k n)
        (λ t. rw (one_label limit (patch k).panel (patch n).panel k n h below (eqb→eq (shown k).panel (shown n).panel t)) (eqb_refl n))
        (λ t. rw (eqb→eq k n t) (eqb_refl (shown n).panel))

    same_met : (k : ℕ) → met eye d (shown k) ≡ met eye d (patch k)
    unfolding met
    same_met k = refl

    first_label :
        (ks : List ℕ) →
        ((k : ℕ) → Memᴰ k ks → k < limit) →
        eqb (panel_of (first_met eye d (map shown ks))) (shown n).panel ≡ first_is eye d patch ks n
    unfolding first_met first_is panel_of
    first_label [] h = ne_eqb 0 (shown n).panel (λ e. omega (arith, mul-le-mul positive (le_refl limit)))
    first_label (k ∷ ks) h = rw (same_met k) (go (met eye d (patch k)) (first_label ks (λ m l. h m (Memᴰ.tail l))))
      where
        go :
            (b : Bool) →
            eqb (panel_of (first_met eye d (map shown ks))) (shown n).panel ≡ first_is eye d patch ks n →
            eqb (panel_of (cond b (some (shown k)) (first_met eye d (map shown ks)))) (shown n).panel
            ≡ cond b (eqb k n) (first_is eye d patch ks n)
        go true rest = same_label k (h k (Memᴰ.head refl))
        go false rest = rest

module _ (s : Scene) (h : ProperScene s) where
  abbrev labels : ℕ → Patch
  labels = shown (length s.patches) (patch_numbered s)

  labels_proper : (n : NodeRecord) → Memᴰ n s.nodes → ProperNode n.plane (map labels (run 0 n))
  labels_proper n m =
      let p : ProperNode n.plane (map (patch_numbered s) (run 0 n)) = node_proper s h n m in
      record {
        off_line = p.off_line;
        panels_rise =
            rw map-map
            (labels_rise (length s.patches) (λ (k : ℕ). (patch_numbered s k).panel) n.patch_run.first n.patch_run.count
            (rw map-map at p.panels_rise));
        proper =
            of_map Proper labels (run 0 n)
            (λ k l. relabel_proper _ k (patch_numbered s k) (p.proper (patch_numbered s k) (Memᴰ.map (patch_numbered s) l)));
      }

  table_length : length (patch_table s) ≡ length s.patches
  unfolding patch_table
  table_length = length-map s.patches (patch_of s.corners)

  labelled_table : map labels (range 0 (length s.patches)) ≡ labelled (length s.patches) (patch_table s)
  unfolding patch_numbered
  labelled_table = ap (λ (n : ℕ). map labels (range 0 n)) (sym table_length)

  -- the first patch met in the walk has the cell
  pub first_has :
      (eye d : Vec) (n : ℕ) →
      n < length s.patches →
      first_is eye d (patch_numbered s) (order eye (number_tree s)) n ≡ has_cell eye d (patch_table s) n
  unfolding patch_numbered
  first_has eye d n below =
      sym (first_label (length s.patches) (patch_numbered s) eye d n below positive (order eye (number_tree s))
      (walk_numbers s h.few_nodes h.children (patch_runs s h) eye))
      ∙ ap (λ (m : ℕ). eqb m (labels n).panel)
      (walk_closest s h labels labels_proper (rw divides_alike (divided_tree s h)) eye d ∙ ap (closest eye d) labelled_table)
      ∙ same_test (eqb (closest eye d (labelled (length s.patches) (patch_table s))) (labels n).panel) (has_cell eye d (patch_table s) n)
      (λ t. has.1 (eqb→eq _ (labels n).panel t))
      (λ t. rw (has.0 t) (eqb_refl (labels n).panel))
    where
      in_table : n < length (patch_table s)
      in_table = rw table_length below

      positive : 1 ≤ (patch_numbered s n).panel
      positive = panel_positive s h.panels (patch_numbered s n) (get_d_member (patch_table s) n _ in_table)

      has :
          T (has_cell eye d (patch_table s) n)
          ↔ (closest eye d (labelled (length s.patches) (patch_table s)) ≡ (labels n).panel)
      has = label_has eye d (patch_table s) (length s.patches) (omega (arith, table_length)) n in_table positive
