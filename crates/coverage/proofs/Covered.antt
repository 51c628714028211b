-- What it says of a point that a patch covers it, or a panel; and that the numbers behind it are linear in the point.
use mathlib.Core.Path.{◌≡◌, refl, sym, ◌∙◌, ap, ap₂, subst}
use mathlib.Core.Bool.{Bool, not, ◌&&◌}
use mathlib.Core.Logic.{◌↔◌, ◌⊎◌, inl, inr}
use mathlib.Core.List.{List, [], ◌∷◌, Memᴰ}
use Prim.Native.Nat.{ℕ, ◌<◌}
use lib.Dec.{T, T_not, eqb, eqb→eq, eqb_refl}
use lib.IntN.{ℤ, pos, ◌+ℤ◌, ◌*ℤ◌}
use lib.Signed.{le_z, le_z_yes, ◌≤ℤ◌}
use Rattle.integer.proofs.Identity.{ring, reify}
use Rattle.model.specs.Lists.{every, any}
use Rattle.model.specs.Vector.{Vec, minus, plus, times, dot, cross, is_zero}
use Rattle.model.specs.Patch.{Patch, Edge, edges}
use Rattle.model.proofs.Tests.{both, every_true, any_true}
use Rattle.model.proofs.Patches.{is_zero_lem}
use Rattle.model.proofs.Vectors.{det}
use Rattle.coverage.specs.Coverage.{plane_side, edge_side, covered, PanelCovers, SameCover}

-- ---- a patch covers a point: the test as facts
pub record Covered (p : Patch) (q : Vec) (k : ℕ) : Type 0 where
  pub in_plane : plane_side p q k ≡ pos 0
  pub in_edge : {e : Edge} → Memᴰ e (edges p.corners) → pos 0 ≤ℤ edge_side p e q k

pub covered_says : (p : Patch) (q : Vec) (k : ℕ) → T (covered p q k) ↔ Covered p q k
unfolding covered
covered_says p q k = (
  λ t.
      let s = parts.0 t in
      record { in_plane = (is_zero_lem (plane_side p q k)).0 s.0; in_edge = λ {e} l. le_z_yes ((every_true side (edges p.corners)).0 s.1 e l) },
  λ c. parts.1 ((is_zero_lem (plane_side p q k)).1 c.in_plane, (every_true side (edges p.corners)).1 (λ e l. (c.in_edge l).le)),
)
  where
    side : Edge → Bool
    side e = le_z (pos 0) (edge_side p e q k)

    parts : T (covered p q k) ↔ (T (is_zero (plane_side p q k)) × T (every side (edges p.corners)))
    parts = both (is_zero (plane_side p q k)) (every side (edges p.corners))

-- ---- its numbers, for the plane through a with normal n
pub plane_sum :
    (q q' a n : Vec) (k k' : ℤ) →
    dot (minus (plus q q') (times (k +ℤ k') a)) n ≡ dot (minus q (times k a)) n +ℤ dot (minus q' (times k' a)) n
plane_sum q q' a n k k' =
    ring
    (q.x ∷ q.y ∷ q.z ∷ q'.x ∷ q'.y ∷ q'.z ∷ a.x ∷ a.y ∷ a.z ∷ n.x ∷ n.y ∷ n.z ∷ k ∷ k' ∷ [])
    (search reify depth 40 fits 200000, tt)

pub plane_times : (q a n : Vec) (k m : ℤ) → dot (minus (times m q) (times (m *ℤ k) a)) n ≡ m *ℤ dot (minus q (times k a)) n
plane_times q a n k m =
    ring
    (q.x ∷ q.y ∷ q.z ∷ a.x ∷ a.y ∷ a.z ∷ n.x ∷ n.y ∷ n.z ∷ k ∷ m ∷ [])
    (search reify depth 40 fits 200000, tt)

-- an edge's number is that of the plane through the edge, across the patch
pub across : (n w x : Vec) → det n w x ≡ dot x (cross n w)
across n w x =
    ring (n.x ∷ n.y ∷ n.z ∷ w.x ∷ w.y ∷ w.z ∷ x.x ∷ x.y ∷ x.z ∷ []) (search reify depth 40 fits 200000, tt)

pub edge_sum :
    (q q' a n w : Vec) (k k' : ℤ) →
    det n w (minus (plus q q') (times (k +ℤ k') a)) ≡ det n w (minus q (times k a)) +ℤ det n w (minus q' (times k' a))
edge_sum q q' a n w k k' =
    across n w (minus (plus q q') (times (k +ℤ k') a)) ∙ plane_sum q q' a (cross n w) k k'
    ∙ sym (ap₂ ◌+ℤ◌ (across n w (minus q (times k a))) (across n w (minus q' (times k' a))))

pub edge_times : (q a n w : Vec) (k m : ℤ) → det n w (minus (times m q) (times (m *ℤ k) a)) ≡ m *ℤ det n w (minus q (times k a))
edge_times q a n w k m =
    across n w (minus (times m q) (times (m *ℤ k) a)) ∙ plane_times q a (cross n w) k m
    ∙ ap (m *ℤ◌) (sym (across n w (minus q (times k a))))

-- ---- a panel covers a point
module _ {n : ℕ} {q : Vec} {k : ℕ} where
  -- the first piece does, or one of the others
  pub covers_cases :
      {p : Patch} {ps : List Patch} → PanelCovers (p ∷ ps) n q k → ((p.panel ≡ n) × T (covered p q k)) ⊎ PanelCovers ps n q k
  covers_cases {p} {ps} c = go c.listed
    where
      go : Memᴰ c.piece (p ∷ ps) → ((p.panel ≡ n) × T (covered p q k)) ⊎ PanelCovers ps n q k
      go (Memᴰ.head e) =
          inl (sym (ap (λ (p : Patch). p.panel) e) ∙ c.of_panel, subst (λ (p : Patch). T (covered p q k)) e c.covers)
      go (Memᴰ.tail l) = inr (record { piece = c.piece; listed = l; of_panel = c.of_panel; covers = c.covers })

  pub covers_first : {p : Patch} {ps : List Patch} → p.panel ≡ n → T (covered p q k) → PanelCovers (p ∷ ps) n q k
  covers_first {p} e t = record { piece = p; listed = Memᴰ.head refl; of_panel = e; covers = t }

  pub covers_rest : {p : Patch} {ps : List Patch} → PanelCovers ps n q k → PanelCovers (p ∷ ps) n q k
  covers_rest c = record { piece = c.piece; listed = Memᴰ.tail c.listed; of_panel = c.of_panel; covers = c.covers }

-- Lists of the same pieces cover the same points, in whatever order and however often these stand.
pub same_pieces : {ps qs : List Patch} → ((p : Patch) → Memᴰ p ps ↔ Memᴰ p qs) → SameCover ps qs
same_pieces same n q k h = (
  λ c. record { piece = c.piece; listed = (same c.piece).0 c.listed; of_panel = c.of_panel; covers = c.covers },
  λ c. record { piece = c.piece; listed = (same c.piece).1 c.listed; of_panel = c.of_panel; covers = c.covers },
)

-- the same by computing
abbrev pub panel_covered : List Patch → ℕ → Vec → ℕ → Bool
panel_covered ps n q k = any (λ (p : Patch). eqb p.panel n && covered p q k) ps

panel_covered_lem : (ps : List Patch) (n : ℕ) (q : Vec) (k : ℕ) → T (panel_covered ps n q k) ↔ PanelCovers ps n q k
panel_covered_lem ps n q k = (
  λ t.
      let f = found.0 t in
      let s = (both (eqb f.0.panel n) (covered f.0 q k)).0 f.2 in
      record { piece = f.0; listed = f.1; of_panel = eqb→eq f.0.panel n s.0; covers = s.1 },
  λ c.
      found.1 (
        c.piece,
        c.listed,
        (both (eqb c.piece.panel n) (covered c.piece q k)).1 (rw c.of_panel (eqb_refl n), c.covers),
      ),
)
  where
    found : T (panel_covered ps n q k) ↔ ((p : Patch) × Memᴰ p ps × T (eqb p.panel n && covered p q k))
    found = any_true (λ (p : Patch). eqb p.panel n && covered p q k) ps

-- one point that only the first list covers tells two lists apart
pub told_apart :
    (ps qs : List Patch) (n : ℕ) (q : Vec) (k : ℕ) → 0 < k → T (panel_covered ps n q k) → T (not (panel_covered qs n q k)) →
    SameCover ps qs → ⊥
told_apart ps qs n q k h s t same =
    T_not (panel_covered qs n q k) t ((panel_covered_lem qs n q k).1 ((same n q k h).0 ((panel_covered_lem ps n q k).0 s)))
