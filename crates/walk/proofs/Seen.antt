-- In an accepted scene the first patch met in the walk shows the closest panel of the patch table: neither tree nor walk is left in it.
use mathlib.Core.Path.{◌≡◌, sym, ap, ◌∙◌}
use mathlib.Core.Bool.{Bool, ◌&&◌}
use mathlib.Core.List.{List, map, Memᴰ}
use Prim.Native.Nat.{ℕ, ◌/◌, ◌%◌, ◌≤◌}
use native.Mathlib.Omega.{arith}
use lib.Dec.{T, eqb, leb, leb→le}
use lib.ListN.{length, length-map}
use Rattle.model.specs.Lists.{range}
use Rattle.model.specs.Vector.{Vec, Plane}
use Rattle.model.specs.Patch.{Patch}
use Rattle.model.specs.Ray.{panel_of, closest, first_met}
use Rattle.model.specs.Tree.{Tree, leaf, node, contents, map_tree, order, divides}
use Rattle.model.specs.Format.{Header, NodeRecord, Scene, header_of, header_size, node_size, patch_size, corner_size, most_nodes, most_patches, most_corners, records_of, decode, no_child, patch_table, patch_numbered, number_tree, patch_tree}
use Rattle.model.specs.Questions.{section_end, is_section, has_sections, planes_proper, children_proper, patch_runs_follow, corner_runs_follow, runs_proper, panels_in_range, panels_never_fall, panels_proper, patches_proper, planes_divide}
use Rattle.model.proofs.Tests.{both}
use Rattle.model.proofs.Ranges.{range_length, of_map}
use Rattle.model.specs.Accepted.{AcceptedScene}
use Rattle.model.proofs.Closest.{closest_members}
use Rattle.model.proofs.Visibility.{ProperNode, ProperTree, visible_panel}
use Rattle.walk.proofs.Whole.{order_map, table_by_number, walk_numbers, number_members}
use Rattle.checked.proofs.Subtrees.{run, contents_map}
use Rattle.model.proofs.Runs.{part_member}
use Rattle.model.proofs.PatchTables.{numbered_listed, table_proper}
use Rattle.walk.proofs.Carried.{EveryNode, carried, run_patches, plane_proper, panels_rise_lem}

-- questions 4 to 9, of a scene with so few nodes that 65,535 is no node's number (question 2)
pub record ProperScene (s : Scene) : Type 0 where
  pub few_nodes : length s.nodes ≤ no_child
  pub planes : T (planes_proper s)
  pub children : T (children_proper s)
  pub runs : T (runs_proper s)
  pub panels : T (panels_proper s)
  pub patches : T (patches_proper s)
  pub divided : T (planes_divide s)

-- a node of numbers, with a patch in place of each
abbrev Filled : (ℕ → Patch) → Plane → List ℕ → Type 0
Filled f p own = ProperNode p (map f own)

everywhere : (f : ℕ → Patch) (t : Tree ℕ) → EveryNode (Filled f) t → ProperTree (map_tree f t)
unfolding map_tree
everywhere f leaf u = u
everywhere f (node p own front back) u = (u.0, everywhere f front u.1, everywhere f back u.2)

module _ (s : Scene) (h : ProperScene s) where
  pub patch_runs : T (patch_runs_follow s)
  unfolding runs_proper
  patch_runs = ((both (patch_runs_follow s) (corner_runs_follow s)).0 h.runs).0

  pub node_proper : (n : NodeRecord) → Memᴰ n s.nodes → ProperNode n.plane (map (patch_numbered s) (run 0 n))
  unfolding panels_proper
  node_proper n m =
      rw (run_patches s patch_runs n m)
      (record {
        off_line = plane_proper s h.planes n m;
        panels_rise = panels_rise_lem s ((both (panels_in_range s) (panels_never_fall s)).0 h.panels).1 n m;
        proper = λ p k. table_proper s h.runs h.patches p (part_member n.patch_run (patch_table s) k);
      })

  -- what holds of each patch of the table holds of each patch of the walk
  pub of_walk :
      (eye : Vec) (P : Patch → Type 0) → ((p : Patch) → Memᴰ p (patch_table s) → P p) →
      (p : Patch) →
      Memᴰ p (map (patch_numbered s) (order eye (number_tree s))) →
      P p
  of_walk eye P each =
      of_map P (patch_numbered s) (order eye (number_tree s))
      (λ k m. each (patch_numbered s k) (numbered_listed s k (walk_numbers s h.few_nodes h.children patch_runs eye k m)))

  -- any patches in place of the tree's numbers, if they are proper and divided as those of the scene
  pub walk_closest :
      (f : ℕ → Patch) →
      ((n : NodeRecord) → Memᴰ n s.nodes → ProperNode n.plane (map f (run 0 n))) →
      T (divides (map_tree f (number_tree s))) →
      (eye d : Vec) →
      panel_of (first_met eye d (map f (order eye (number_tree s)))) ≡ closest eye d (map f (range 0 (length s.patches)))
  walk_closest f proper divided eye d =
      ap (λ (l : List Patch). panel_of (first_met eye d l)) (sym (order_map f eye (number_tree s)))
      ∙ visible_panel eye d (map_tree f (number_tree s)) (everywhere f (number_tree s) (carried s (Filled f) proper)) divided
      ∙ ap (closest eye d) (contents_map f (number_tree s))
      ∙ closest_members eye d (map f (contents (number_tree s))) (map f (range 0 (length s.patches)))
      (λ p m. (number_members s h.few_nodes h.children patch_runs f p).0 m)
      (λ p m. (number_members s h.few_nodes h.children patch_runs f p).1 m)

  pub divided_tree : T (divides (map_tree (patch_numbered s) (number_tree s)))
  unfolding planes_divide patch_tree
  divided_tree = h.divided

  pub first_met_closest : (eye d : Vec) → panel_of (first_met eye d (map (patch_numbered s) (order eye (number_tree s)))) ≡ closest eye d (patch_table s)
  first_met_closest eye d =
      walk_closest (patch_numbered s) node_proper divided_tree eye d ∙ ap (closest eye d) (table_by_number s)

-- ---- the same of bytes that passed questions 1 to 9

-- question 2: a scene has at most 1,024 nodes
few_nodes : (bytes : List ℕ) → T (has_sections bytes) → length (decode bytes).nodes ≤ no_child
unfolding has_sections is_section decode records_of
few_nodes bytes t =
    let h : Header = header_of bytes in
    let nodes : Bool = is_section header_size node_size most_nodes h.node_section in
    let patches : Bool = is_section (section_end h.node_section) patch_size most_patches h.patch_section in
    let corners : Bool = is_section (section_end h.patch_section) corner_size most_corners h.corner_section in
    let a = (both (nodes && patches && corners) (eqb (section_end h.corner_section) h.whole)).0 t in
    let b = (both (nodes && patches) corners).0 a.0 in
    let c = (both nodes patches).0 b.0 in
    let size : ℕ = h.node_section.size in
    let d = (both (eqb h.node_section.offset header_size && eqb (size % node_size) 0) (leb (size / node_size) most_nodes)).0 c.0 in
    rw (length-map, range_length) (omega (arith, leb→le (size / node_size) most_nodes d.1))

pub accepted : {bytes : List ℕ} → AcceptedScene bytes → ProperScene (decode bytes)
accepted {bytes} h =
    record {
      few_nodes = few_nodes bytes h.sections;
      planes = h.planes;
      children = h.children;
      runs = h.runs;
      panels = h.panels;
      patches = h.patches;
      divided = h.divided;
    }
