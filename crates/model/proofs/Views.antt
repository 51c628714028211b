-- The old view keeps its directions and answers; and in an accepted view right, a cell's direction and up do not lie in one plane.
use mathlib.Core.Path.{◌≡◌, sym, ◌∙◌, ap, ap₂, fun_ext, subst}
use mathlib.Core.Bool.{Bool, true, ◌&&◌}
use mathlib.Core.List.{[], ◌∷◌}
use Prim.Native.Nat.{ℕ, ◌+◌, ◌*◌}
use native.Mathlib.Nat.{zero-add}
use native.Mathlib.Omega.{arith}
use lib.Dec.{T, leb, le→leb}
use lib.IntN.{ℤ, pos, ◌+ℤ◌, ◌-ℤ◌, ◌*ℤ◌}
use lib.Signed.{◌<ℤ◌}
use Rattle.integer.proofs.Identity.{ring, reify}
use Rattle.integer.proofs.Products.{*_pos}
use Rattle.model.specs.Vector.{Vec, vec, plus, times}
use Rattle.model.specs.View.{Window, Axes, Tile, View, level_axes, level_direction, whole_tile, direction}
use Rattle.model.specs.Station.{eye_of}
use Rattle.model.specs.Beside.{stepped, fine, cell_line}
use Rattle.model.specs.Picture.{picture, cell_panel, unlit_lists}
use Rattle.model.specs.Call.{Call, call_view, call_line}
use Rattle.model.specs.Questions.{answer, scene_questions, call_questions, questions, survey_answer, within, point_in_range, window_in_range, tile_in_window, view_in_range, axes_proper}
use Rattle.model.specs.Survey.{call_patches, call_picture, call_unlit, call_counter}
use Rattle.model.proofs.Tests.{same_test, both}
use Rattle.model.proofs.FirstNo.{without, without_same}
use Rattle.model.proofs.Vectors.{det}
use Rattle.model.proofs.LastCell.{raised}
use Rattle.model.proofs.CallLimits.{within_more, view_bounded, axes_bounded}

-- ---- the old view

-- the line beside document 01's direction that a cell is read along: the camera's right and up are the axes x and z
abbrev pub level_line : Window → ℕ → ℕ → Vec
level_line w i j = stepped level_axes (level_direction w i j) 2 fine 2 (fine * fine)

-- one part of the sum of three terms: a level camera's axes leave one of them
first_part : (a b c : ℤ) → a *ℤ pos 1 +ℤ b *ℤ pos 0 +ℤ c *ℤ pos 0 ≡ a
first_part a b c = ring (a ∷ b ∷ c ∷ []) (search reify depth 40 fits 200000, tt)

second_part : (a b c : ℤ) → a *ℤ pos 0 +ℤ b *ℤ pos 1 +ℤ c *ℤ pos 0 ≡ b
second_part a b c = ring (a ∷ b ∷ c ∷ []) (search reify depth 40 fits 200000, tt)

third_part : (a b c : ℤ) → a *ℤ pos 0 +ℤ b *ℤ pos 0 +ℤ c *ℤ pos 1 ≡ c
third_part a b c = ring (a ∷ b ∷ c ∷ []) (search reify depth 40 fits 200000, tt)

pub level_direction_lem : (w : Window) (t : Tile) (i j : ℕ) → direction (record { axes = level_axes; window = w; tile = t }) i j ≡ level_direction w i j
level_direction_lem w t i j =
    let a : ℤ = pos (2 * i + 1) -ℤ pos w.width in
    let b : ℤ = pos w.lens in
    let c : ℤ = pos w.height -ℤ pos (1 + 2 * j) in
    λ k. vec (first_part a b c k) (second_part a b c k) (third_part a b c k)

-- question 14 says yes of the old view
pub level_proper : T (axes_proper level_axes)
unfolding axes_proper
level_proper = tt

-- Question 10 of a window that is drawn as one tile: what it was before windows were drawn in tiles.
pub one_tile_lem :
    (v : View) → v.camera.tile ≡ whole_tile v.camera.window →
    view_in_range v
    ≡ (point_in_range v.eye
    && within 1 256 v.camera.window.width
    && within 1 128 v.camera.window.height
    && within 1 4096 v.camera.window.lens)
unfolding view_in_range
one_tile_lem v one =
    ap (λ (t : Tile). point_in_range v.eye && window_in_range w && tile_in_window w t) one
    ∙ same_test (p && window_in_range w && tile_in_window w (whole_tile w)) (p && narrow && low && lens) to from
  where
    w : Window
    w = v.camera.window

    p : Bool
    p = point_in_range v.eye

    narrow : Bool
    narrow = within 1 256 w.width

    low : Bool
    low = within 1 128 w.height

    lens : Bool
    lens = within 1 4096 w.lens

    to : T (p && window_in_range w && tile_in_window w (whole_tile w)) → T (p && narrow && low && lens)
    to t =
        let a = (both (p && window_in_range w) (tile_in_window w (whole_tile w))).0 t in
        let b = (both p (window_in_range w)).0 a.0 in
        let c = (both (within 1 1024 w.width && within 1 512 w.height) lens).0 b.1 in
        let d = (both (narrow && low && leb (0 + w.width) w.width) (leb (0 + w.height) w.height)).0 a.1 in
        let e = (both (narrow && low) (leb (0 + w.width) w.width)).0 d.0 in
        let g = (both narrow low).0 e.0 in
        (both (p && narrow && low) lens).1 ((both (p && narrow) low).1 ((both p narrow).1 (b.0, g.0), g.1), c.1)

    from : T (p && narrow && low && lens) → T (p && window_in_range w && tile_in_window w (whole_tile w))
    from t =
        let a = (both (p && narrow && low) lens).0 t in
        let b = (both (p && narrow) low).0 a.0 in
        let c = (both p narrow).0 b.0 in
        let wide : T (within 1 1024 w.width) = within_more 1 256 1024 w.width (omega arith) c.1 in
        let high : T (within 1 512 w.height) = within_more 1 128 512 w.height (omega arith) b.1 in
        let window : T (window_in_range w) = (both (within 1 1024 w.width && within 1 512 w.height) lens).1 ((both (within 1 1024 w.width) (within 1 512 w.height)).1 (wide, high), a.1) in
        let columns : T (leb (0 + w.width) w.width) = le→leb (0 + w.width) w.width (omega arith) in
        let rows : T (leb (0 + w.height) w.height) = le→leb (0 + w.height) w.height (omega arith) in
        (both (p && window_in_range w) (tile_in_window w (whole_tile w))).1 (
          (both p (window_in_range w)).1 (c.0, window),
          (both (narrow && low && leb (0 + w.width) w.width) (leb (0 + w.height) w.height)).1
              ((both (narrow && low) (leb (0 + w.width) w.width)).1 ((both narrow low).1 (c.1, b.1), columns), rows),
        )

-- a call of the old view
module _ (c : Call) (level : c.camera.axes ≡ level_axes) where
  -- Every old call keeps its answer: that of the questions without 14.
  pub level_answer : survey_answer c ≡ answer (without 14 questions) c
  unfolding survey_answer questions scene_questions call_questions
  level_answer =
      sym (without_same c 14 questions (subst (λ (a : Axes). T (axes_proper a && true)) (sym level) ((both (axes_proper level_axes) true).1 (level_proper, tt))))

  level_directions : direction c.camera ≡ level_direction c.camera.window
  level_directions =
      ap (λ (a : Axes). direction (record { axes = a; window = c.camera.window; tile = c.camera.tile })) level
      ∙ fun_ext (λ i. fun_ext (λ j. level_direction_lem c.camera.window c.camera.tile i j))

  -- its lines are those beside document 01's directions, at the tile's place (document 02, F-3 and F-9)
  level_lines : call_line c ≡ (λ (i j : ℕ). level_line c.camera.window (c.camera.tile.left + i) (c.camera.tile.top + j))
  unfolding cell_line
  level_lines = λ t i j. stepped (level t) (level_directions t (c.camera.tile.left + i) (c.camera.tile.top + j)) 2 fine 2 (fine * fine)

  -- Every old call, which draws its window as one tile, has its picture and its unlit lists along document 01's directions, each read by the lines just beside it.
  module _ (one : c.camera.tile ≡ whole_tile c.camera.window) where
    abbrev w : Window
    w = c.camera.window

    old_lines : call_line c ≡ level_line w
    old_lines =
        level_lines
        ∙ ap (λ (t : Tile). λ (i j : ℕ). level_line w (t.left + i) (t.top + j)) one
        ∙ fun_ext (λ i. fun_ext (λ j. ap₂ (level_line w) (zero-add i) (zero-add j)))

    pub level_picture : call_picture c ≡ picture (eye_of c.station) w.width w.height (level_line w) (call_patches c)
    unfolding call_picture
    level_picture =
        ap₂ (λ (t : Tile) (d : ℕ → ℕ → Vec). picture (eye_of c.station) t.width t.height d (call_patches c)) one old_lines

    pub level_unlit :
        call_unlit c ≡ unlit_lists w.width w.height (cell_panel (eye_of c.station) (level_line w) (call_patches c))
    unfolding call_unlit
    level_unlit =
        ap₂
        (λ (t : Tile) (d : ℕ → ℕ → Vec). unlit_lists t.width t.height (cell_panel (eye_of c.station) d (call_patches c))) one
        old_lines

    pub level_counter : T (view_in_range (call_view c)) → call_counter c ≡ c.counter + 1
    unfolding call_counter
    level_counter t = raised c.camera (view_bounded (call_view c) t).inside (ap (λ (s : Tile). s.left + s.width) one ∙ zero-add w.width) (ap (λ (s : Tile). s.top + s.height) one ∙ zero-add w.height) c.counter

-- ---- any view

-- right, the direction and up: only the direction's part along forward counts
direction_between :
    (r f u : Vec) (a b c : ℤ) → det r (plus (plus (times a r) (times b f)) (times c u)) u ≡ b *ℤ det r f u
direction_between r f u a b c =
    ring
    (r.x ∷ r.y ∷ r.z ∷ f.x ∷ f.y ∷ f.z ∷ u.x ∷ u.y ∷ u.z ∷ a ∷ b ∷ c ∷ [])
    (search reify depth 40 fits 200000, tt)

-- In a view that questions 10 and 14 let pass, right, the direction of any cell and up turn as right, forward and up do: none of them lies in the plane of the
-- other two, and no direction is zero.
pub axes_apart :
    (v : View) → T (view_in_range v) → T (axes_proper v.camera.axes) → (i j : ℕ) →
    pos 0 <ℤ det v.camera.axes.right (direction v.camera i j) v.camera.axes.up
axes_apart v t s i j =
    let a = v.camera.axes in
    let w = v.camera.window in
    let lens : pos 0 <ℤ pos w.lens = record { lt = le→leb 1 w.lens (view_bounded v t).lens_some } in
    subst (λ (z : ℤ). pos 0 <ℤ z)
    (sym (direction_between a.right a.forward a.up (pos (2 * i + 1) -ℤ pos w.width) (pos w.lens) (pos w.height -ℤ pos (1 + 2 * j))))
    (*_pos lens (axes_bounded a s).turning)
