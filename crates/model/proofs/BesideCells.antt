-- What a cell of an accepted view shows, and which patch has it: along the line that the equations name, and by the lines just beside.
use mathlib.Core.Path.{◌≡◌, ap, ◌∙◌}
use mathlib.Core.Logic.{◌↔◌, ◌≢◌, ◌⊎◌, inl, inr}
use mathlib.Core.List.{List, [], ◌∷◌, Memᴰ}
use Prim.Native.Nat.{ℕ, ◌≤◌, ◌<◌}
use native.Mathlib.Omega.{arith}
use lib.Dec.{T, lit≤}
use lib.IntN.{pos, negsuc, nat_abs, ◌*ℤ◌}
use lib.Signed.{◌<ℤ◌}
use lib.ListN.{length, get_or-eq_default}
use Rattle.integer.proofs.Identity.{ring, reify}
use Rattle.model.specs.Vector.{Vec, times, dot}
use Rattle.model.specs.Bounds.{VecWithin}
use Rattle.model.specs.Patch.{Patch, Edge, numbered, edges}
use Rattle.model.specs.Ray.{eye_product, edge_vector, edge_number, met, IsClosest, closest}
use Rattle.model.specs.Booking.{has_cell, HasCell}
use Rattle.model.specs.View.{View, direction}
use Rattle.model.specs.Beside.{JustBeside, ShownBeside, HasBeside, cell_line}
use Rattle.model.specs.Questions.{view_in_range, axes_proper}
use Rattle.model.proofs.Tests.{lt_or_ge, same_test}
use Rattle.model.proofs.CallLimits.{view_bounded}
use Rattle.model.proofs.Sizes.{parts_within, vec_more}
use Rattle.model.proofs.Patches.{met_says}
use Rattle.model.proofs.Precedes.{met_numerator}
use Rattle.model.proofs.Closest.{closest_right, closest_only}
use Rattle.model.proofs.Booked.{has_cell_lem}
use Rattle.model.proofs.Alike.{largest, Sound, same_side, turned_within, edge_within, alike_met, alike_closest, alike_has}
use Rattle.model.proofs.Beside.{side_kept, beside_says}

-- a number past the end of the list has no cell: it reads as a patch without corners, which is not met
has_listed : (eye d : Vec) (ps : List Patch) (k : ℕ) → HasCell eye d ps k → k < length ps
has_listed eye d ps k h = go (lt_or_ge k (length ps))
  where
    nobody : Patch
    nobody = record { panel = 0; corners = [] }

    edge_on : eye_product eye nobody ≡ pos 0
    edge_on = ring (eye.x ∷ eye.y ∷ eye.z ∷ []) (search reify depth 40 fits 200000, tt)

    go : (k < length ps) ⊎ (length ps ≤ k) → k < length ps
    go (inl l) = l
    go (inr l) =
        let e : nat_abs (eye_product eye (numbered ps k)) ≡ 0 = ap (λ (p : Patch). nat_abs (eye_product eye p)) (get_or-eq_default ps nobody l) ∙ ap nat_abs edge_on in
        absurd (omega (arith, met_numerator eye d (numbered ps k) h.is_met))

module _
    (v : View) (view : T (view_in_range v)) (axes : T (axes_proper v.camera.axes))
    {ps : List Patch} (sound : Sound ps) (i j : ℕ)
  where
    eye_within : VecWithin 10000 v.eye
    eye_within = parts_within 10000 v.eye (view_bounded v view).point

    -- a patch is met by the line exactly if it is by the lines just beside
    pub beside_met : (p : Patch) → Memᴰ p ps → T (met v.eye (cell_line v.camera i j) p) ↔ JustBeside v.camera i j (λ (line : Vec). T (met v.eye line p))
    beside_met p m = beside_says v.camera axes i j (λ D D' a h. alike_met eye_within (sound.ranged p m) a h)

    -- a vector turned over twice
    twice : (d w : Vec) → dot d w ≡ negsuc 0 *ℤ dot d (times (negsuc 0) w)
    twice d w = ring (d.x ∷ d.y ∷ d.z ∷ w.x ∷ w.y ∷ w.z ∷ []) (search reify depth 40 fits 200000, tt)

    -- where the sight line itself runs along none of its edges, the patch is met as it is by the sight line
    pub off_edges_lem :
        (p : Patch) → Memᴰ p ps →
        ((e : Edge) → Memᴰ e (edges p.corners) → edge_number (direction v.camera i j) (edge_vector v.eye e) ≢ pos 0) →
        met v.eye (cell_line v.camera i j) p ≡ met v.eye (direction v.camera i j) p
    off_edges_lem p m off =
        same_test (met v.eye line p) (met v.eye d p)
        (λ t.
        let h = (met_says v.eye line p).0 t in
        (met_says v.eye d p).1
        (record { faced = h.faced; passed = λ l. same_side line d _ (side l).0 (opposite l).0 (eye_product v.eye p) (h.passed l) }))
        (λ t.
        let h = (met_says v.eye d p).0 t in
        (met_says v.eye line p).1
        (record { faced = h.faced; passed = λ l. same_side d line _ (side l).1 (opposite l).1 (eye_product v.eye p) (h.passed l) }))
      where
        line : Vec
        line = cell_line v.camera i j

        d : Vec
        d = direction v.camera i j

        small : {e : Edge} → Memᴰ e (edges p.corners) → VecWithin largest (edge_vector v.eye e)
        small l = vec_more (edge_within eye_within (sound.ranged p m) l) (lit≤ tt)

        side : {e : Edge} → Memᴰ e (edges p.corners) → (pos 0 <ℤ dot line (edge_vector v.eye e)) ↔ (pos 0 <ℤ dot d (edge_vector v.eye e))
        side {e} l = side_kept v.camera axes i j (small l) (off e l)

        opposite :
            {e : Edge} → Memᴰ e (edges p.corners) →
            (pos 0 <ℤ dot line (times (negsuc 0) (edge_vector v.eye e))) ↔ (pos 0 <ℤ dot d (times (negsuc 0) (edge_vector v.eye e)))
        opposite {e} l =
            side_kept v.camera axes i j (turned_within (small l))
            (λ z. off e l (twice d (edge_vector v.eye e) ∙ ap (negsuc 0 *ℤ◌) z))

    shown_beside : (n : ℕ) → IsClosest v.eye (cell_line v.camera i j) ps n ↔ ShownBeside v ps i j n
    shown_beside n =
        beside_says v.camera axes i j (λ D D' a h. alike_closest eye_within sound a h)

    -- each cell shows a panel, or none, by the lines just beside
    pub beside_right : ShownBeside v ps i j (closest v.eye (cell_line v.camera i j) ps)
    beside_right = (shown_beside (closest v.eye (cell_line v.camera i j) ps)).0 (closest_right v.eye (cell_line v.camera i j) ps)

    -- and no other
    pub beside_only : {n : ℕ} → ShownBeside v ps i j n → n ≡ closest v.eye (cell_line v.camera i j) ps
    beside_only {n} h = closest_only v.eye (cell_line v.camera i j) ps ((shown_beside n).1 h)

    -- the patch that has the cell has it by the lines just beside
    pub beside_has : (k : ℕ) → T (has_cell v.eye (cell_line v.camera i j) ps k) ↔ HasBeside v ps i j k
    beside_has k =
        let test = has_cell_lem v.eye (cell_line v.camera i j) ps k in
        let says = beside_says v.camera axes i j (λ D D' a h. alike_has eye_within sound a k (has_listed v.eye D ps k h) h) in
        (λ t. says.0 (test.0 t), λ h. test.1 (says.1 h))
