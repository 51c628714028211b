-- The directions of a camera's cells are the rays of a raster, and the lines that its cells are read along are those just beside these rays.
use mathlib.Core.Path.{◌≡◌, refl, sym, ◌∙◌, ap, subst}
use mathlib.Core.Bool.{Bool, true, false, cond}
use mathlib.Core.List.{[], ◌∷◌}
use Prim.Native.Nat.{ℕ, zero, suc, ◌+◌, ◌*◌, ◌-◌, ◌≤◌, ◌<◌}
use native.Mathlib.Omega.{arith}
use lib.Dec.{ltb, ltb→lt}
use lib.IntN.{ℤ, pos, negsuc, nat_abs, neg_ℤ, ◌+ℤ◌, ◌-ℤ◌, ◌*ℤ◌}
use mir.Syntax.{w64}
use mir.Val.{SFits, to_z, of_z}
use Rattle.integer.specs.Magnitude.{Within}
use Rattle.integer.proofs.Identity.{ring, reify}
use Rattle.integer.proofs.Machine.{machine, no_overflow}
use Rattle.integer.proofs.Magnitude.{within_more}
use Rattle.model.proofs.Tests.{is_true}
use Rattle.model.specs.Vector.{Vec, vec, plus, times}
use Rattle.model.specs.View.{Axes, Camera as ModelCamera, direction, window_column, window_row}
use Rattle.model.specs.Beside.{fine, cell_line, tile_line}
use Rattle.geometry.specs.declared.Vector.{Vector}
use Rattle.geometry.specs.declared.Raster.{Raster}
use Rattle.geometry.specs.Machine.{vec_of, VectorIs, NumberIs}
use Rattle.geometry.specs.Raster.{line_at}
use Rattle.geometry.proofs.Results.{number}
use Rattle.camera.specs.declared.Camera.{Camera}
use Rattle.camera.specs.Machine.{camera_of}
use Rattle.camera.specs.Rays.{from_middle, RaysOf}

-- the direction of the tile's first cell, and how it changes from column to column and from row to row
abbrev first_direction : ModelCamera → Vec
first_direction c =
    plus
    (plus (times (from_middle c.tile.left c.window.width) c.axes.right) (times (pos c.window.lens) c.axes.forward))
    (times (neg_ℤ (from_middle c.tile.top c.window.height)) c.axes.up)

abbrev to_next_column : ModelCamera → Vec
to_next_column c = times (pos 2) c.axes.right

abbrev to_next_row : ModelCamera → Vec
to_next_row c = times (negsuc 1) c.axes.up

-- any one part of the vectors
part_by_steps :
    (w l h a b i j r f u : ℤ) →
    (pos 2 *ℤ a +ℤ pos 1 -ℤ w) *ℤ r +ℤ l *ℤ f +ℤ neg_ℤ (pos 2 *ℤ b +ℤ pos 1 -ℤ h) *ℤ u +ℤ i *ℤ (pos 2 *ℤ r) +ℤ j *ℤ (negsuc 1 *ℤ u)
    ≡ (pos 2 *ℤ (a +ℤ i) +ℤ pos 1 -ℤ w) *ℤ r +ℤ l *ℤ f +ℤ (h -ℤ (pos 1 +ℤ pos 2 *ℤ (b +ℤ j))) *ℤ u
part_by_steps w l h a b i j r f u =
    ring (w ∷ l ∷ h ∷ a ∷ b ∷ i ∷ j ∷ r ∷ f ∷ u ∷ []) (search reify depth 40 fits 200000, tt)

direction_by_steps :
    (c : ModelCamera) (i j : ℕ) →
    plus (plus (first_direction c) (times (pos i) (to_next_column c))) (times (pos j) (to_next_row c))
    ≡ direction c (window_column c i) (window_row c j)
direction_by_steps c i j =
    let a = c.axes in
    let part =
    part_by_steps (pos c.window.width) (pos c.window.lens) (pos c.window.height) (pos c.tile.left) (pos c.tile.top) (pos i)
    (pos j) in
    λ t.
    vec (part a.right.x a.forward.x a.up.x t) (part a.right.y a.forward.y a.up.y t)
    (part a.right.z a.forward.z a.up.z t)

-- ---- the raster that is made of a machine camera

-- a cell lies no farther from the middle than the last one
pub middle_within : (n all : ℕ) → n < all → Within (all - 1) (from_middle n all)
middle_within n zero h = absurd (omega arith)
middle_within n (suc b) h = record { within = go (ltb (2 * n + 1) (suc b)) refl }
  where
    go : (t : Bool) → ltb (2 * n + 1) (suc b) ≡ t → nat_abs (cond t (negsuc (suc b - suc (2 * n + 1))) (pos ((2 * n + 1) - suc b))) ≤ suc b - 1
    go true e = let l : 2 * n + 1 < suc b = ltb→lt (2 * n + 1) (suc b) (is_true e) in omega arith
    go false e = omega arith

-- the first cell's numbers as the machine has them
pub first_column : {n : ℕ} {z r : ℤ} → n ≤ 1024 → NumberIs (n - 1) z r → NumberIs 1023 z (to_z w64 (of_z w64 r))
first_column {z = z} {r} h is = go (within_more is.bounded (omega arith))
  where
    go : Within 1023 r → NumberIs 1023 z (to_z w64 (of_z w64 r))
    go b = number (search machine depth 40 fits 20000, tt, tt, is.value)

pub row_fits : {n : ℕ} {z r : ℤ} → n ≤ 512 → NumberIs (n - 1) z r → SFits w64 (pos 0 -ℤ to_z w64 (of_z w64 r))
row_fits {r = r} h is = go (within_more is.bounded (omega arith))
  where
    go : Within 511 r → SFits w64 (pos 0 -ℤ to_z w64 (of_z w64 r))
    go b = no_overflow (search machine depth 40 fits 20000, tt)

pub first_row : {n : ℕ} {z r : ℤ} → n ≤ 512 → NumberIs (n - 1) z r → NumberIs 511 (neg_ℤ z) (to_z w64 (of_z w64 (pos 0 -ℤ to_z w64 (of_z w64 r))))
first_row {z = z} {r} h is = go (within_more is.bounded (omega arith))
  where
    go : Within 511 r → NumberIs 511 (neg_ℤ z) (to_z w64 (of_z w64 (pos 0 -ℤ to_z w64 (of_z w64 r))))
    go b = number (search machine depth 40 fits 20000, tt, tt, ap neg_ℤ is.value)

pub straight_on : {n : ℕ} {r : ℤ} → Within 4096 (pos n) → r ≡ pos n → NumberIs 4096 (pos n) (to_z w64 (of_z w64 r))
straight_on {n} {r} h e = go (subst (Within 4096) (sym e) h)
  where
    go : Within 4096 r → NumberIs 4096 (pos n) (to_z w64 (of_z w64 r))
    go b = number (search machine depth 40 fits 20000, tt, tt, e)

module _ (c : Camera) {a b d : ℤ} (p : a ≡ from_middle c.tile.left c.width) (q : b ≡ pos c.lens) (s : d ≡ neg_ℤ (from_middle c.tile.top c.height)) where
  -- the first direction by these numbers
  abbrev first_made : Vec
  first_made = plus (plus (times a (vec_of c.axes.right)) (times b (vec_of c.axes.forward))) (times d (vec_of c.axes.up))

  first_meant : first_made ≡ first_direction (camera_of c)
  first_meant = λ t. plus (plus (times (p t) (vec_of c.axes.right)) (times (q t) (vec_of c.axes.forward))) (times (s t) (vec_of c.axes.up))

  pub rays_made :
      {o x y : Vector} {m n : ℕ} → VectorIs 563000 first_made o → VectorIs 200 (to_next_column (camera_of c)) x → VectorIs 200 (to_next_row (camera_of c)) y →
      m ≡ c.tile.width → n ≡ c.tile.height → RaysOf (camera_of c) (record { origin = o; across = x; down = y; width = m; height = n })
  rays_made e f g wide high =
      record {
        rays = λ i j.
            (λ t. plus (plus ((e.value ∙ first_meant) t) (times (pos i) (f.value t))) (times (pos j) (g.value t)))
            ∙ direction_by_steps (camera_of c) i j;
        to_next_column_lem = f.value;
        to_next_row_lem = g.value;
        bounded = record { origin_bounded = e.bounded; across_bounded = f.bounded; down_bounded = g.bounded };
        columns = wide;
        rows = high;
      }

-- ---- the lines just beside the rays

-- one part: α (ray) + β (2 right) + γ (−2 up), as the sum with the two steps has it
part_beside : (α β γ d r u : ℤ) → α *ℤ d +ℤ β *ℤ (pos 2 *ℤ r) +ℤ γ *ℤ (negsuc 1 *ℤ u) ≡ α *ℤ d +ℤ (pos 2 *ℤ β) *ℤ r -ℤ (pos 2 *ℤ γ) *ℤ u
part_beside α β γ d r u = ring (α ∷ β ∷ γ ∷ d ∷ r ∷ u ∷ []) (search reify depth 40 fits 200000, tt)

-- a cell of the tile is read along the raster's line
pub line_is : (c : ModelCamera) {r : Raster} → RaysOf c r → (i j : ℕ) → line_at r i j ≡ tile_line c i j
unfolding line_at cell_line
line_is c h i j =
    (λ t.
    plus (plus (times (pos (fine * (fine * fine))) (h.rays i j t)) (times (pos (fine * fine)) (h.to_next_column_lem t)))
    (times (pos fine) (h.to_next_row_lem t)))
    ∙ (λ t. vec (part d.x a.right.x a.up.x t) (part d.y a.right.y a.up.y t) (part d.z a.right.z a.up.z t))
  where
    a : Axes
    a = c.axes

    d : Vec
    d = direction c (window_column c i) (window_row c j)

    part :
        (d r u : ℤ) →
        pos (fine * (fine * fine)) *ℤ d +ℤ pos (fine * fine) *ℤ (pos 2 *ℤ r) +ℤ pos fine *ℤ (negsuc 1 *ℤ u)
        ≡ pos (fine * (fine * fine)) *ℤ d +ℤ pos (2 * (fine * fine)) *ℤ r -ℤ pos (2 * fine) *ℤ u
    part d r u = part_beside (pos (fine * (fine * fine))) (pos (fine * fine)) (pos fine) d r u
