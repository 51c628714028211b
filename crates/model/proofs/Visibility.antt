-- The visibility theorem: the first patch met in the walk front to back is the closest of the patches that the tree holds.
use mathlib.Core.Path.{◌≡◌, refl, sym, ap, subst, ◌∙◌}
use mathlib.Core.Logic.{inl, inr}
use mathlib.Core.Bool.{Bool, true, false, not, cond, ◌&&◌}
use mathlib.Core.List.Memᴰ
use mathlib.Core.List.{List, ◌++◌, map, Memᴰ, append_assoc}
use mathlib.Core.Option.{Option}
use lib.Dec.{T, T_not}
use lib.IntN.{pos}
use lib.Signed.{◌≤ℤ◌, lt_z, lt_z_no}
use Rattle.model.specs.Lists.{every}
use Rattle.model.specs.Vector.{Vec, Plane, side, turned_over}
use Rattle.model.specs.Patch.{Patch, lies_on, Proper}
use Rattle.model.specs.Ray.{met, precedes, closest_patch, panel_of, closest, first_met}
use Rattle.model.specs.Tree.{Tree, leaf, node, contents, order, lies_positive, divides}
use Rattle.model.specs.Questions.{off_one_line, never_falling}
use Rattle.model.proofs.Tests.{is_true, both, every_true, of_append}
use Rattle.model.proofs.Sides.{lies_on_turned, eye_turned}
use Rattle.model.proofs.Separation.{front_first, own_before_back}
use Rattle.model.proofs.OnePlane.{level}
use Rattle.model.proofs.Precedes.{nearer, precedes_true}
use Rattle.model.proofs.FirstMet.{or_else, or_else_assoc, first_met_append, level_run, Separated, closest_patch_separated, closest_patch_cong}

-- a node's plane and own patches pass questions 4, 6 (corner counts), 7 (order) and 8
pub record ProperNode (s : Plane) (own : List Patch) : Type 0 where
  pub off_line : T (off_one_line s)
  pub panels_rise : T (never_falling (map (λ (p : Patch). p.panel) own))
  pub proper : (p : Patch) → Memᴰ p own → Proper p

-- and so do all nodes of a tree
abbrev pub ProperTree : Tree Patch → Type 0
ProperTree leaf = Unit {0}
ProperTree (node s own front back) = ProperNode s own × ProperTree front × ProperTree back

contents_proper : (t : Tree Patch) → ProperTree t → (p : Patch) → Memᴰ p (contents t) → Proper p
unfolding contents
contents_proper leaf h = λ p m. absurd (Memᴰ.not-nil m)
contents_proper (node s own front back) h =
    of_append Proper own h.0.proper
    (of_append Proper (contents front) (contents_proper front h.1) (contents_proper back h.2))

-- what question 9 says of one node
pub record Divided (s : Plane) (own : List Patch) (front back : Tree Patch) : Type 0 where
  pub own_side : (p : Patch) → Memᴰ p own → T (lies_on s p)
  pub front_side : (p : Patch) → Memᴰ p (contents front) → T (lies_positive s p)
  pub back_side : (p : Patch) → Memᴰ p (contents back) → T (lies_positive (turned_over s) p)
  pub front_divides : T (divides front)
  pub back_divides : T (divides back)

divided :
    (s : Plane) (own : List Patch) (front back : Tree Patch) →
    T (divides (node s own front back)) →
    Divided s own front back
unfolding divides
divided s own front back t =
    let a : Bool = every (lies_on s) own in
    let b : Bool = every (lies_positive s) (contents front) in
    let c : Bool = every (lies_positive (turned_over s)) (contents back) in
    let u = (both (a && b && c && divides front) (divides back)).0 t in
    let v = (both (a && b && c) (divides front)).0 u.0 in
    let w = (both (a && b) c).0 v.0 in
    let x = (both a b).0 w.0 in
    record {
      own_side = (every_true (lies_on s) own).0 x.0;
      front_side = (every_true (lies_positive s) (contents front)).0 x.1;
      back_side = (every_true (lies_positive (turned_over s)) (contents back)).0 w.1;
      front_divides = v.1;
      back_divides = u.1;
    }

module _ (eye d : Vec) where
  -- a node's patches, with the eye on the near side of its plane or on the plane
  module _
      (s : Plane) (near own far : List Patch) (eye_near : pos 0 ≤ℤ side s eye)
      (near_proper : (p : Patch) → Memᴰ p near → Proper p)
      (own_proper : (p : Patch) → Memᴰ p own → Proper p)
      (far_proper : (p : Patch) → Memᴰ p far → Proper p)
      (near_side : (p : Patch) → Memᴰ p near → T (lies_positive s p))
      (own_side_lem : (p : Patch) → Memᴰ p own → T (lies_on s p))
      (far_side : (p : Patch) → Memᴰ p far → T (lies_positive (turned_over s) p))
    where
      near_own : Separated eye d near own
      near_own p q m k t u =
          (precedes_true eye d p q).1
          (inl (front_first s eye d p q (near_proper p m) (own_proper q k) t u eye_near (near_side p m) (inl (own_side_lem q k))))

      near_far : Separated eye d near far
      near_far p q m k t u =
          (precedes_true eye d p q).1
          (inl (front_first s eye d p q (near_proper p m) (far_proper q k) t u eye_near (near_side p m) (inr (far_side q k))))

      own_far : Separated eye d own far
      own_far p q m k t u =
          (precedes_true eye d p q).1
          (inl (own_before_back s eye d p q (own_proper p m) (far_proper q k) t u eye_near (own_side_lem p m) (far_side q k)))

      others_far : Separated eye d (own ++ near) far
      others_far p q m k =
          of_append (λ (x : Patch). T (met eye d x) → T (met eye d q) → T (precedes eye d x q)) own
          (λ x n. own_far x q n k) (λ x n. near_far x q n k) p m

      -- a closest patch on the near side hides the others, and one of the node hides those on the far side: in whichever order the sides are listed
      node_closest :
          closest_patch eye d (own ++ (near ++ far))
          ≡ or_else (closest_patch eye d near) (or_else (closest_patch eye d own) (closest_patch eye d far))
      node_closest =
          ap (closest_patch eye d) (sym (append_assoc own near far))
          ∙ (closest_patch_separated eye d (own ++ near) far others_far).0
          ∙ ap (λ (o : Option Patch). or_else o (closest_patch eye d far))
          (closest_patch_separated eye d near own near_own).1
          ∙ or_else_assoc (closest_patch eye d near) (closest_patch eye d own) (closest_patch eye d far)

      node_closest' :
          closest_patch eye d (own ++ (far ++ near))
          ≡ or_else (closest_patch eye d near) (or_else (closest_patch eye d own) (closest_patch eye d far))
      node_closest' =
          let sides = closest_patch_separated eye d near far near_far in
          closest_patch_cong eye d own (far ++ near) (near ++ far) (sides.1 ∙ sym sides.0) ∙ node_closest

  -- the walk: near side, own patches, far side
  walk_first :
      (near own far : List Patch) (n o f : Option Patch) →
      first_met eye d near ≡ n →
      first_met eye d own ≡ o →
      first_met eye d far ≡ f →
      first_met eye d (near ++ (own ++ far)) ≡ or_else n (or_else o f)
  walk_first near own far n o f a b c =
      rw (first_met_append eye d near (own ++ far), first_met_append eye d own far, a, b, c)

  -- the first patch met in the walk is the closest of the tree's patches
  pub visibility :
      (t : Tree Patch) →
      ProperTree t →
      T (divides t) →
      first_met eye d (order eye t) ≡ closest_patch eye d (contents t)
  unfolding order contents first_met closest_patch
  visibility leaf h t = refl
  visibility (node s own front back) h t =
      go (lt_z (side s eye) (pos 0)) refl (visibility front h.1 c.front_divides)
      (visibility back h.2 c.back_divides)
    where
      c : Divided s own front back
      c = divided s own front back t

      own_first : first_met eye d own ≡ closest_patch eye d own
      own_first =
          level_run eye d own h.0.panels_rise
          (λ p q m k u v.
          T_not (nearer eye d p q)
          (level s eye d p q (h.0.proper p m) (h.0.proper q k) u v h.0.off_line (c.own_side p m) (c.own_side q k)))

      go :
          (b : Bool) →
          lt_z (side s eye) (pos 0) ≡ b →
          first_met eye d (order eye front) ≡ closest_patch eye d (contents front) →
          first_met eye d (order eye back) ≡ closest_patch eye d (contents back) →
          first_met eye d
          (cond b (order eye back ++ (own ++ order eye front)) (order eye front ++ (own ++ order eye back)))
          ≡ closest_patch eye d (own ++ (contents front ++ contents back))
      go true e f g =
          walk_first (order eye back) own (order eye front) _ _ _ g own_first f
          ∙ sym (node_closest' (turned_over s) (contents back) own (contents front) (eye_turned s eye (is_true e))
          (contents_proper back h.2) h.0.proper (contents_proper front h.1) c.back_side
          (λ p m. lies_on_turned s p (c.own_side p m)) c.front_side)
      go false e f g =
          walk_first (order eye front) own (order eye back) _ _ _ f own_first g
          ∙ sym (node_closest s (contents front) own (contents back) (lt_z_no (subst (λ (b : Bool). T (not b)) (sym e) tt))
          (contents_proper front h.1) h.0.proper (contents_proper back h.2) c.front_side c.own_side
          c.back_side)

  -- and its panel the closest panel
  pub visible_panel :
      (t : Tree Patch) →
      ProperTree t →
      T (divides t) →
      panel_of (first_met eye d (order eye t)) ≡ closest eye d (contents t)
  unfolding closest
  visible_panel t h v = ap panel_of (visibility t h v)
