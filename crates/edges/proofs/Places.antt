-- The edges of a patch by the corner that they begin at.
use mathlib.Core.Path.{◌≡◌, refl, sym, ◌∙◌, ap, subst}
use mathlib.Core.Bool.{Bool, true, false, cond}
use mathlib.Core.List.{List, [], ◌∷◌, ◌++◌, map, map-map}
use Prim.Native.Nat.{ℕ, zero, suc, ◌+◌, ◌≤◌, ◌<◌}
use native.Mathlib.Omega.{arith}
use native.Mathlib.Numerals.{add-one}
use lib.Dec.{ltb, lit<}
use borrow.Author.Tests.{ltb-true, ltb-false, lt-ltb}
use lib.IntN.{ℤ}
use lib.ListN.{length, get_or, take, drop, drop_of_length-le}
use lib.Seq.{drop-cons}
use mir.Syntax.{w64}
use mir.Val.{to_z, of_z}
use Rattle.integer.specs.Magnitude.{Within, sign_of}
use Rattle.integer.proofs.Magnitude.{within_stored}
use Rattle.model.specs.Lists.{range}
use Rattle.model.specs.Vector.{Vec, origin, minus, dot, cross, times, plane_normal}
use Rattle.model.specs.Patch.{Patch, round, first_edge, edges}
use Rattle.model.specs.Ray.{eye_product, edge_vector}
use Rattle.geometry.specs.declared.Vector.{Vector}
use Rattle.geometry.specs.Machine.{vec_of, plane_of, NumberIs}
use Rattle.model.proofs.Tables.{table_at}
use Rattle.edges.specs.Edges.{EyeSign, oriented_edges, next_corner}
use Rattle.edges.proofs.Orientation.{sign_within}

-- a patch's edge vector from corner i on
abbrev pub edge_numbered : Vec → Patch → ℕ → Vec
edge_numbered eye p i = get_or (oriented_edges eye p) i origin

-- ---- the edge that begins at corner i
module _ (cs : List Vec) (i : ℕ) (h : i < length cs) where
  from_corner_lem : round cs i ≡ get_or cs i origin ∷ (drop (suc i) cs ++ take i cs)
  from_corner_lem = ap (λ (l : List Vec). l ++ take i cs) (drop-cons cs i origin h)

  edge_from : (first_edge (round cs i)).from ≡ get_or cs i origin
  edge_from = ap (λ (l : List Vec). (first_edge l).from) from_corner_lem ∙ begins (drop (suc i) cs ++ take i cs)
    where
      begins : (rest : List Vec) → (first_edge (get_or cs i origin ∷ rest)).from ≡ get_or cs i origin
      begins [] = refl
      begins (w ∷ rest) = refl

  edge_to_next : suc i < length cs → (first_edge (round cs i)).to ≡ get_or cs (suc i) origin
  edge_to_next k =
      ap (λ (l : List Vec). (first_edge l).to)
      (from_corner_lem ∙ ap (λ (l : List Vec). get_or cs i origin ∷ (l ++ take i cs)) (drop-cons cs (suc i) origin k))

  edge_to_first : 1 < length cs → length cs ≤ suc i → (first_edge (round cs i)).to ≡ get_or cs 0 origin
  edge_to_first k e =
      ap (λ (l : List Vec). (first_edge l).to)
      (from_corner_lem ∙ ap (λ (l : List Vec). get_or cs i origin ∷ (l ++ take i cs)) (drop_of_length-le cs e))
      ∙ ends i (omega arith)
    where
      ends : (j : ℕ) → 0 < j → (first_edge (get_or cs i origin ∷ take j cs)).to ≡ get_or cs 0 origin
      ends zero l = absurd (omega arith)
      ends (suc j) l = ap (λ (l : List Vec). (first_edge (get_or cs i origin ∷ take (suc j) l)).to) (drop-cons cs 0 origin (omega arith))

-- ---- the edge vectors: as many as corners, each of the edge from its corner
module _ (eye : Vec) (p : Patch) where
  abbrev pub from_corner : ℕ → Vec
  from_corner k = times (sign_of (eye_product eye p)) (edge_vector eye (first_edge (round p.corners k)))

  pub oriented_table : oriented_edges eye p ≡ map from_corner (range 0 (length p.corners))
  unfolding oriented_edges edges
  oriented_table = map-map _ _ (range 0 (length p.corners))

  pub oriented_at : (i : ℕ) → i < length p.corners → edge_numbered eye p i ≡ from_corner i
  oriented_at i h = ap (λ (l : List Vec). get_or l i origin) oriented_table ∙ table_at from_corner (length p.corners) i origin h

-- ---- the corner at the next place is the edge's end
next_end : (cs : List Vec) (i : ℕ) → i < length cs → 1 < length cs → get_or cs (next_corner (length cs) i) origin ≡ (first_edge (round cs i)).to
next_end cs i h some = go (ltb (suc i) (length cs)) refl
  where
    go : (t : Bool) → ltb (suc i) (length cs) ≡ t → get_or cs (cond t (suc i) 0) origin ≡ (first_edge (round cs i)).to
    go true t = sym (edge_to_next cs i h (ltb-true (suc i) (length cs) t))
    go false t = sym (edge_to_first cs i h some (ltb-false (suc i) (length cs) t))

pub next_further : (n i : ℕ) → i + 1 < n → i + 1 ≡ next_corner n i
next_further n i h = rw (lt-ltb (suc i) n (omega arith)) (add-one i)

pub next_inside : (n i : ℕ) → i < n → next_corner n i < n
next_inside n i h = go (ltb (suc i) n) refl
  where
    go : (t : Bool) → ltb (suc i) n ≡ t → cond t (suc i) 0 < n
    go true t = ltb-true (suc i) n t
    go false t = omega arith

-- ---- the sign of the eye product
module _ {eye : Vec} {p : Patch} {sign : ℤ} (h : EyeSign eye p sign) where
  pub sign_small : Within 1 sign
  sign_small = subst (Within 1) (sym h.is) (sign_within (eye_product eye p))

  -- it passes through a word
  pub sign_passed : EyeSign eye p (to_z w64 (of_z w64 sign))
  sign_passed = record { is = within_stored w64 sign_small (lit< tt) ∙ h.is }

-- what is computed from the first three corners is the patch's
pub sign_made :
    {eye : Vec} {p : Patch} {a b c normal : Vector} {z sign : ℤ} →
    vec_of a ≡ get_or p.corners 0 origin →
    vec_of b ≡ get_or p.corners 1 origin →
    vec_of c ≡ get_or p.corners 2 origin →
    vec_of normal ≡ plane_normal (plane_of a b c) →
    NumberIs 48000000000000 (dot (minus (vec_of a) eye) (vec_of normal)) z →
    sign ≡ sign_of (to_z w64 (of_z w64 z)) →
    EyeSign eye p sign
sign_made {eye} {a = a} first second third en ez es =
    record {
      is =
          es
          ∙ ap sign_of (within_stored w64 ez.bounded (lit< tt) ∙ ez.value ∙ ap (dot (minus (vec_of a) eye)) en)
          ∙ (λ t. sign_of (dot (minus (first t) eye) (plane_normal (record { a = first t; b = second t; c = third t }))));
    }

-- and what is computed from an edge's corners is the edge's vector
pub edge_made :
    (eye : Vec) {p : Patch} {v w : Vec} {sign : ℤ} (i : ℕ) →
    EyeSign eye p sign →
    i < length p.corners → 1 < length p.corners →
    v ≡ get_or p.corners i origin →
    w ≡ get_or p.corners (next_corner (length p.corners) i) origin →
    times sign (cross (minus v eye) (minus w eye)) ≡ edge_numbered eye p i
edge_made eye {p} i s h some ev ew =
    let from = ev ∙ sym (edge_from p.corners i h) in
    let to = ew ∙ next_end p.corners i h some in
    (λ t. times (s.is t) (cross (minus (from t) eye) (minus (to t) eye))) ∙ sym (oriented_at eye p i h)
