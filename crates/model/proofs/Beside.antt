-- The lines just beside a sight line all show the same, and the line that a cell is read along shows it too.
use mathlib.Core.Path.{◌≡◌, sym, ◌∙◌, subst}
use mathlib.Core.Logic.{◌↔◌, ◌≢◌, inl, inr}
use mathlib.Core.List.{[], ◌∷◌}
use Prim.Native.Nat.{ℕ, suc, ◌+◌, ◌*◌, ◌≤◌, ◌<◌}
use native.Mathlib.Nat.{mul-pos, mul-le-mul, le_refl, le_of_lt}
use native.Mathlib.Omega.{arith}
use lib.Dec.{T, lit≤, lit<, lt→ltb, le→leb}
use lib.IntN.{ℤ, pos, negsuc, neg_ℤ}
use lib.Signed.{◌<ℤ◌, lt_z_yes, le_z_yes}
use Rattle.integer.specs.Magnitude.{Within}
use Rattle.integer.proofs.Identity.{ring, reify, combine₁}
use Rattle.integer.proofs.Magnitude.{within_more, within_negation}
use Rattle.model.specs.Vector.{Vec, minus, plus, times, dot}
use Rattle.model.specs.Bounds.{VecWithin}
use Rattle.model.specs.View.{Axes, Camera, direction}
use Rattle.model.specs.Beside.{stepped, JustBeside, fine, cell_line}
use Rattle.model.specs.Questions.{axes_proper}
use Rattle.model.proofs.Steep.{Steep, FirstAbove, weighted, weighted_says, weighted_zero}
use Rattle.model.proofs.CallLimits.{axes_bounded}
use Rattle.model.proofs.Sizes.{parts_within, dot_within}
use Rattle.model.proofs.Alike.{largest, Alike, alike_sym}

-- ---- directions with steep weights
-- α d + β right − γ up
abbrev lean : Axes → Vec → ℤ → ℤ → ℤ → Vec
lean axes d α β γ = minus (plus (times α d) (times β axes.right)) (times γ axes.up)

lean_dot :
    (axes : Axes) (d v : Vec) (α β γ : ℤ) →
    dot (lean axes d α β γ) v ≡ weighted α β γ (dot d v) (dot axes.right v) (neg_ℤ (dot axes.up v))
lean_dot axes d v α β γ = go axes.right axes.up
  where
    go : (r u : Vec) → dot (minus (plus (times α d) (times β r)) (times γ u)) v ≡ weighted α β γ (dot d v) (dot r v) (neg_ℤ (dot u v))
    go r u =
        ring
        (r.x ∷ r.y ∷ r.z ∷ u.x ∷ u.y ∷ u.z ∷ d.x ∷ d.y ∷ d.z ∷ v.x ∷ v.y ∷ v.z ∷ α ∷ β ∷ γ ∷ [])
        (search reify depth 40 fits 200000, tt)

-- how large the products of right and up with such vectors are: 3 × 100 times as large
abbrev most : ℕ
most = 23040000000000000000000000

-- small enough steps have steep weights
step_steep : (m a b c e : ℕ) → 0 < a → a * (2 * suc m) < b → 0 < c → c * (b * suc m) < e → Steep (pos m) (pos (b * e)) (pos (a * e)) (pos (c * b))
step_steep m a b c e ha hb hc he =
    record {
      size = le_z_yes (le→leb 0 m (omega arith));
      last = lt_z_yes (lt→ltb 0 (c * b) (mul-pos hc (omega arith)));
      middle = lt_z_yes (lt→ltb ((c * b) * m) (a * e) (omega (arith, one)));
      first = lt_z_yes (lt→ltb ((a * e + c * b) * m) (b * e) (omega (arith, one, all)));
    }
  where
    one : 1 * e ≤ a * e
    one = mul-le-mul ha (le_refl e)

    all : (a * (2 * suc m)) * e ≤ b * e
    all = mul-le-mul (le_of_lt hb) (le_refl e)

-- the steps of the line that a cell is read along are small enough
fine_steep : Steep (pos most) (pos (fine * (fine * fine))) (pos (2 * (fine * fine))) (pos (2 * fine))
fine_steep = step_steep most 2 fine 2 (fine * fine) (lit< tt) (lit< tt) (lit< tt) (lit< tt)

-- a step below two bounds
below_first : (m n : ℕ) → 1 * m < suc (m + n)
below_first m n = omega arith

below_second : (m n : ℕ) → 1 * n < suc (m + n)
below_second m n = omega arith

-- ---- what holds of one holds of all
module _ (k : Camera) (axes : T (axes_proper k.axes)) (i j : ℕ) where
  right : VecWithin 100 k.axes.right
  right = parts_within 100 k.axes.right (axes_bounded k.axes axes).right_short

  up : VecWithin 100 k.axes.up
  up = parts_within 100 k.axes.up (axes_bounded k.axes axes).up_short

  abbrev line : ℤ → ℤ → ℤ → Vec
  line = lean k.axes (direction k i j)

  right_part : {w : Vec} → VecWithin largest w → Within most (dot k.axes.right w)
  right_part h = within_more (dot_within right h) (lit≤ tt)

  up_part : {w : Vec} → VecWithin largest w → Within most (neg_ℤ (dot k.axes.up w))
  up_part h = within_negation (within_more (dot_within up h) (lit≤ tt))

  leans :
      {α β γ : ℤ} → Steep (pos most) α β γ → {w : Vec} → VecWithin largest w →
      (pos 0 <ℤ dot (line α β γ) w)
      ↔ FirstAbove (dot (direction k i j) w) (dot k.axes.right w) (neg_ℤ (dot k.axes.up w))
  leans {α} {β} {γ} s {w} h =
      subst
      (λ (z : ℤ).
      (pos 0 <ℤ z) ↔ FirstAbove (dot (direction k i j) w) (dot k.axes.right w) (neg_ℤ (dot k.axes.up w)))
      (sym (lean_dot k.axes (direction k i j) w α β γ))
      (weighted_says s (right_part h) (up_part h))

  -- where the sight line itself is on one side of a vector's plane, the line that the cell is read along is on that side
  pub side_kept :
      {w : Vec} → VecWithin largest w → dot (direction k i j) w ≢ pos 0 →
      (pos 0 <ℤ dot (cell_line k i j) w) ↔ (pos 0 <ℤ dot (direction k i j) w)
  unfolding cell_line
  side_kept {w} h f = let l = leans fine_steep h in (λ g. first (l.0 g), λ g. l.1 (inl g))
    where
      first : FirstAbove (dot (direction k i j) w) (dot k.axes.right w) (neg_ℤ (dot k.axes.up w)) → pos 0 <ℤ dot (direction k i j) w
      first (inl g) = g
      first (inr (e, _)) = absurd (f e)

  -- the line that the cell is read along is perpendicular to a vector only where the sight line, right and up all are
  pub line_zero :
      {w : Vec} → VecWithin largest w → dot (cell_line k i j) w ≡ pos 0 →
      (dot (direction k i j) w ≡ pos 0) × (dot k.axes.right w ≡ pos 0) × (dot k.axes.up w ≡ pos 0)
  unfolding cell_line
  line_zero {w} h e =
      let l = lean_dot k.axes (direction k i j) w (pos (fine * (fine * fine))) (pos (2 * (fine * fine))) (pos (2 * fine)) in
      let z = weighted_zero fine_steep (right_part h) (up_part h) (sym l ∙ e) in
      (z.0, z.1, opposite (dot k.axes.up w) z.2)
    where
      opposite : (x : ℤ) → neg_ℤ x ≡ pos 0 → x ≡ pos 0
      opposite x e = combine₁ (negsuc 0) e (ring (x ∷ []) (search reify depth 40 fits 200000, tt))

  steep_alike : {α β γ α' β' γ' : ℤ} → Steep (pos most) α β γ → Steep (pos most) α' β' γ' → Alike (line α β γ) (line α' β' γ')
  steep_alike s t = record { sides = λ h. (λ l. (leans t h).1 ((leans s h).0 l), λ l. (leans s h).1 ((leans t h).0 l)) }

  -- small enough steps show what the line that the cell is read along shows
  small_alike :
      (a b c e : ℕ) → 0 < a → a * (2 * suc most) < b → 0 < c → c * (b * suc most) < e →
      Alike (cell_line k i j) (stepped k.axes (direction k i j) a b c e)
  unfolding cell_line
  small_alike a b c e ha hb hc he = steep_alike fine_steep (step_steep most a b c e ha hb hc he)

  -- What is the same along directions that see a scene's vectors on the same sides: it holds along the line that the cell is read along exactly if it holds of
  -- the lines just beside.
  pub beside_says :
      {P : Vec → Type 0} → ((D D' : Vec) → Alike D D' → P D → P D') →
      P (cell_line k i j) ↔ JustBeside k i j P
  beside_says {P} carry = (to, from)
    where
      to : P (cell_line k i j) → JustBeside k i j P
      to h =
          record {
            bound = 2 * suc most;
            holds = λ a b ha hb.
                record { bound = b * suc most; holds = λ c e hc he. carry _ _ (small_alike a b c e ha hb hc he) h };
          }

      from : JustBeside k i j P → P (cell_line k i j)
      from h =
          let b = suc (h.bound + 2 * suc most) in
          let g = h.holds 1 b (lit< tt) (below_first h.bound (2 * suc most)) in
          let e = suc (g.bound + b * suc most) in
          carry _ _ (alike_sym (small_alike 1 b 1 e (lit< tt) (below_second h.bound (2 * suc most)) (lit< tt) (below_second g.bound (b * suc most))))
          (g.holds 1 e (lit< tt) (below_first g.bound (b * suc most)))
