-- Upright rectangles at forward 100: which points they cover, and that one and its two parts on either side of an upright cut cover the same.
use mathlib.Core.Path.{◌≡◌, refl, sym, ◌∙◌, ap, subst}
use mathlib.Core.Logic.{◌↔◌, ◌⊎◌, inl, inr}
use mathlib.Core.List.Memᴰ
use mathlib.Core.List.{List, [], ◌∷◌, Memᴰ}
use Prim.Native.Nat.{ℕ, zero-le}
use lib.Dec.{T, le→leb}
use lib.IntN.{ℤ, pos, neg_ℤ, ◌-ℤ◌, ◌*ℤ◌}
use lib.Signed.{◌<ℤ◌, ◌≤ℤ◌, le_z_yes}
use Rattle.integer.proofs.Identity.{ring, reify, by_zero, combine₂}
use Rattle.integer.proofs.Order.{<_diff, ≤_diff, ≤_by, <→≤, <_or-≥, ≤ℤ_trans, ≤ℤ-<ℤ_trans}
use Rattle.integer.proofs.Products.{*_pos, *_nonneg, *_zero_cancel, ≤_by_multiple}
use Rattle.model.specs.Vector.{Vec}
use Rattle.model.specs.Patch.{Patch, Edge, edges, first_edge, round}
use Rattle.model.proofs.Scenes.{piece}
use Rattle.coverage.specs.Coverage.{plane_side, edge_side, covered, PanelCovers, SameCover}
use Rattle.coverage.proofs.Covered.{covered_says, covers_cases, covers_first, covers_rest}

abbrev pub rectangle : ℕ → ℤ → ℤ → ℤ → ℤ → Patch
rectangle n left right low high = record { panel = n; corners = piece left right low high }

-- the point q / k is at forward 100, and between the rectangle's sides or on them
pub record Between (left right low high : ℤ) (q : Vec) (k : ℤ) : Type 0 where
  pub level : q.y ≡ k *ℤ pos 100
  pub not_left : (k *ℤ left) ≤ℤ q.x
  pub not_right : q.x ≤ℤ (k *ℤ right)
  pub not_below : (k *ℤ low) ≤ℤ q.z
  pub not_above : q.z ≤ℤ (k *ℤ high)

-- ---- what a rectangle covers
module _ (n : ℕ) {left right low high : ℤ} (wide : left <ℤ right) (tall : low <ℤ high) (q : Vec) (k : ℕ) where
  abbrev patch : Patch
  patch = rectangle n left right low high

  -- the edge from a corner, by the corner's place
  abbrev edge : ℕ → Edge
  edge i = first_edge (round patch.corners i)

  abbrev W : ℤ
  W = right -ℤ left

  abbrev H : ℤ
  H = high -ℤ low

  area : pos 0 <ℤ (W *ℤ H)
  area = *_pos (<_diff wide) (<_diff tall)

  area_wide : pos 0 <ℤ ((W *ℤ H) *ℤ W)
  area_wide = *_pos area (<_diff wide)

  area_tall : pos 0 <ℤ ((W *ℤ H) *ℤ H)
  area_tall = *_pos area (<_diff tall)

  plane_number : (W *ℤ H) *ℤ (q.y -ℤ pos k *ℤ pos 100) ≡ neg_ℤ (plane_side patch q k)
  plane_number = ring (left ∷ right ∷ low ∷ high ∷ q.x ∷ q.y ∷ q.z ∷ pos k ∷ []) (search reify depth 40 fits 200000, tt)

  low_number : ((W *ℤ H) *ℤ W) *ℤ (q.z -ℤ pos k *ℤ low) ≡ edge_side patch (edge 0) q k
  low_number = ring (left ∷ right ∷ low ∷ high ∷ q.x ∷ q.y ∷ q.z ∷ pos k ∷ []) (search reify depth 40 fits 200000, tt)

  right_number : ((W *ℤ H) *ℤ H) *ℤ (pos k *ℤ right -ℤ q.x) ≡ edge_side patch (edge 1) q k
  right_number = ring (left ∷ right ∷ low ∷ high ∷ q.x ∷ q.y ∷ q.z ∷ pos k ∷ []) (search reify depth 40 fits 200000, tt)

  high_number : ((W *ℤ H) *ℤ W) *ℤ (pos k *ℤ high -ℤ q.z) ≡ edge_side patch (edge 2) q k
  high_number = ring (left ∷ right ∷ low ∷ high ∷ q.x ∷ q.y ∷ q.z ∷ pos k ∷ []) (search reify depth 40 fits 200000, tt)

  left_number : ((W *ℤ H) *ℤ H) *ℤ (q.x -ℤ pos k *ℤ left) ≡ edge_side patch (edge 3) q k
  left_number = ring (left ∷ right ∷ low ∷ high ∷ q.x ∷ q.y ∷ q.z ∷ pos k ∷ []) (search reify depth 40 fits 200000, tt)

  -- an edge is one of the four
  each : (P : Edge → Type 0) → P (edge 0) → P (edge 1) → P (edge 2) → P (edge 3) → {e : Edge} → Memᴰ e (edges patch.corners) → P e
  unfolding edges
  each P a b c d (Memᴰ.head e) = subst P (sym e) a
  each P a b c d (Memᴰ.tail (Memᴰ.head e)) = subst P (sym e) b
  each P a b c d (Memᴰ.tail (Memᴰ.tail (Memᴰ.head e))) = subst P (sym e) c
  each P a b c d (Memᴰ.tail (Memᴰ.tail (Memᴰ.tail (Memᴰ.head e)))) = subst P (sym e) d
  each P a b c d {e = e} (Memᴰ.tail (Memᴰ.tail (Memᴰ.tail (Memᴰ.tail x)))) = elim x [ ]

  inside : {w b a : ℤ} → pos 0 <ℤ w → {x : ℤ} → w *ℤ (b -ℤ a) ≡ x → a ≤ℤ b → pos 0 ≤ℤ x
  inside h e l = subst (pos 0 ≤ℤ◌) e (*_nonneg (<→≤ h) (≤_diff l))

  flat : (w x y z : ℤ) → w *ℤ (y -ℤ z) ≡ neg_ℤ x → y ≡ z → x ≡ pos 0
  flat w x y z e f = combine₂ (pos 1) e (neg_ℤ w) f (ring (w ∷ x ∷ y ∷ z ∷ []) (search reify depth 40 fits 200000, tt))

  -- A rectangle covers just the points between its sides, these counted in.
  pub rectangle_covered : T (covered patch q k) ↔ Between left right low high q (pos k)
  unfolding edges
  rectangle_covered = (
    λ t.
        let c = (covered_says patch q k).0 t in
        record {
          level = by_zero (*_zero_cancel area (plane_number ∙ ap neg_ℤ c.in_plane));
          not_below = ≤_by_multiple area_wide (c.in_edge (Memᴰ.head refl)) low_number;
          not_right = ≤_by_multiple area_tall (c.in_edge (Memᴰ.tail (Memᴰ.head refl))) right_number;
          not_above = ≤_by_multiple area_wide (c.in_edge (Memᴰ.tail (Memᴰ.tail (Memᴰ.head refl)))) high_number;
          not_left =
              ≤_by_multiple area_tall (c.in_edge (Memᴰ.tail (Memᴰ.tail (Memᴰ.tail (Memᴰ.head refl))))) left_number;
        },
    λ b.
        (covered_says patch q k).1
        (record {
          in_plane = flat (W *ℤ H) (plane_side patch q k) q.y (pos k *ℤ pos 100) plane_number b.level;
          in_edge =
              each (λ (e : Edge). pos 0 ≤ℤ edge_side patch e q k)
              (inside area_wide low_number b.not_below) (inside area_tall right_number b.not_right)
              (inside area_wide high_number b.not_above) (inside area_tall left_number b.not_left);
        }),
  )

-- ---- cut in two
-- k is not below 0: it keeps the order
scaled : (k : ℕ) {a b : ℤ} → a <ℤ b → (pos k *ℤ a) ≤ℤ (pos k *ℤ b)
scaled k {a} {b} h =
    ≤_by (*_nonneg (le_z_yes {a = pos 0} {b = pos k} (le→leb 0 k zero-le)) (<→≤ (<_diff h)))
    (ring (pos k ∷ a ∷ b ∷ []) (search reify depth 40 fits 200000, tt))

module _ {left middle right : ℤ} (l : left <ℤ middle) (r : middle <ℤ right) {low high : ℤ} {q : Vec} (k : ℕ) where
  -- what lies between the sides lies on one side of the cut or on it
  between_parts :
      Between left right low high q (pos k) ↔ (Between left middle low high q (pos k) ⊎ Between middle right low high q (pos k))
  between_parts = (λ b. part b (<_or-≥ (pos k *ℤ middle) q.x), whole)
    where
      part :
          Between left right low high q (pos k) → ((pos k *ℤ middle) <ℤ q.x) ⊎ (q.x ≤ℤ (pos k *ℤ middle)) →
          Between left middle low high q (pos k) ⊎ Between middle right low high q (pos k)
      part b (inl h) =
          inr (record { level = b.level; not_left = <→≤ h; not_right = b.not_right; not_below = b.not_below; not_above = b.not_above })
      part b (inr h) =
          inl (record { level = b.level; not_left = b.not_left; not_right = h; not_below = b.not_below; not_above = b.not_above })

      whole :
          Between left middle low high q (pos k) ⊎ Between middle right low high q (pos k) →
          Between left right low high q (pos k)
      whole (inl b) =
          record { level = b.level; not_left = b.not_left; not_right = ≤ℤ_trans b.not_right (scaled k r); not_below = b.not_below; not_above = b.not_above }
      whole (inr b) =
          record { level = b.level; not_left = ≤ℤ_trans (scaled k l) b.not_left; not_right = b.not_right; not_below = b.not_below; not_above = b.not_above }

module _ (n : ℕ) {left middle right low high : ℤ} (l : left <ℤ middle) (r : middle <ℤ right) (tall : low <ℤ high) where
  abbrev uncut : List Patch
  uncut = rectangle n left right low high ∷ []

  abbrev cut : List Patch
  cut = rectangle n left middle low high ∷ rectangle n middle right low high ∷ []

  wide : left <ℤ right
  wide = ≤ℤ-<ℤ_trans (<→≤ l) r

  -- A rectangle and its two parts on either side of an upright cut cover the same points.
  pub cut_in_two : SameCover uncut cut
  cut_in_two m q k _ = (λ c. parted (covers_cases c), λ c. joined (covers_cases c))
    where
      halves : n ≡ m → Between left middle low high q (pos k) ⊎ Between middle right low high q (pos k) → PanelCovers cut m q k
      halves e (inl b) = covers_first e ((rectangle_covered n l tall q k).1 b)
      halves e (inr b) = covers_rest (covers_first e ((rectangle_covered n r tall q k).1 b))

      parted : ((n ≡ m) × T (covered (rectangle n left right low high) q k)) ⊎ PanelCovers [] m q k → PanelCovers cut m q k
      parted (inl (e, t)) = halves e ((between_parts l r k).0 ((rectangle_covered n wide tall q k).0 t))
      parted (inr c) = absurd (Memᴰ.not-nil c.listed)

      whole : n ≡ m → Between left middle low high q (pos k) ⊎ Between middle right low high q (pos k) → PanelCovers uncut m q k
      whole e b = covers_first e ((rectangle_covered n wide tall q k).1 ((between_parts l r k).1 b))

      right_joined :
          ((n ≡ m) × T (covered (rectangle n middle right low high) q k)) ⊎ PanelCovers [] m q k → PanelCovers uncut m q k
      right_joined (inl (e, t)) = whole e (inr ((rectangle_covered n r tall q k).0 t))
      right_joined (inr c) = absurd (Memᴰ.not-nil c.listed)

      joined :
          ((n ≡ m) × T (covered (rectangle n left middle low high) q k))
          ⊎ PanelCovers (rectangle n middle right low high ∷ []) m q k →
          PanelCovers uncut m q k
      joined (inl (e, t)) = whole e (inl ((rectangle_covered n l tall q k).0 t))
      joined (inr c) = right_joined (covers_cases c)
