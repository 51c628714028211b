-- Extents, and the patches that they enclose.
use mathlib.Core.Path.{◌≡◌, sym, subst}
use mathlib.Core.Logic.{◌⊎◌, inl, inr}
use mathlib.Core.List.Memᴰ
use mathlib.Core.List.{List, Memᴰ}
use Prim.Native.Nat.{ℕ, zero, suc, ◌+◌, ◌-◌, ◌≤◌, ◌<◌}
use native.Mathlib.Nat.{add-zero}
use native.Mathlib.Omega.{arith}
use borrow.Author.Count.{below_more}
use lib.IntN.{ℤ}
use lib.Signed.{◌≤ℤ◌}
use Rattle.integer.proofs.Order.{≤ℤ_trans, ≡→≤}
use Rattle.model.specs.Lists.{range}
use Rattle.model.specs.Vector.{Vec}
use Rattle.model.specs.Patch.{Patch}
use Rattle.model.specs.Format.{decode, patch_numbered}
use Rattle.model.proofs.Ranges.{of_map, of_range, in_range}
use Rattle.geometry.specs.Machine.{vec_of, VectorIs}
use Rattle.geometry.specs.declared.Vector.{Vector}
use Rattle.format.specs.Layout.{corner_number}
use Rattle.format.specs.declared.layout.Layout.{Layout}
use Rattle.format.specs.declared.records.Run.{Run}
use Rattle.checked.specs.Checked.{CornersAre}
use Rattle.boxes.specs.Boxes.{wide, InBox, Covers, BoxBounded, Extreme, upward, downward, Joined, Common}
use Rattle.extents.specs.Extents.{Widened, takes_corner, Wider, takes_patch, PatchTaken}
use Rattle.boxes.specs.Enclosed.{Along, Encloses, ExtentBounded}
use Rattle.boxes.specs.declared.Bounds.{Bounds}
use Rattle.boxes.specs.declared.Corner.{Corner}
use Rattle.boxes.specs.declared.Extent.{Extent}
use Rattle.boxes.proofs.BoxLaws.{at_most_refl, covers_refl, covers_trans, in_wider, joined_first, joined_second, joined_bounded, common_first, common_second, common_bounded}

pub wider_trans : {e f g : Extent} → Wider e f → Wider f g → Wider e g
wider_trans h k = record { outer_covers = covers_trans h.outer_covers k.outer_covers; inner_covers = covers_trans k.inner_covers h.inner_covers }

along_less :
    {axis : Vec → ℤ} {low high low' high' : ℤ} {p : Patch} → low ≤ℤ low' → high' ≤ℤ high → Along axis low high p → Along axis low' high' p
along_less h k a =
    record { up = (a.up.0, a.up.1, ≤ℤ_trans k a.up.2); down = (a.down.0, a.down.1, ≤ℤ_trans a.down.2 h) }

pub encloses_wider : {e r : Extent} {p : Patch} → Wider e r → Encloses e p → Encloses r p
encloses_wider h e =
    let i = h.inner_covers in
    record {
      corners_in = λ c m. in_wider h.outer_covers (e.corners_in c m);
      x_along = along_less i.low_most.x_most i.high_least.x_most e.x_along;
      y_along = along_less i.low_most.y_most i.high_least.y_most e.y_along;
      z_along = along_less i.low_most.z_most i.high_least.z_most e.z_along;
    }

-- a corner of the scene in two bytes a part
pub narrowed : {u : Vec} {v : Vector} {c : Corner} → wide c ≡ v → VectorIs 10000 u v → VectorIs 10000 u (wide c)
narrowed {u} e h = subst (VectorIs 10000 u) (sym e) h

-- ---- one thing after another taken in

module _ {X : Type 0} {wider : X → X → Type 0} {good : X → Type 0} {takes : X → ℕ → Type 0} {b : X} where
  widened_more :
      ((r s : X) → wider b r → wider r s → wider b s) →
      ((r s : X) (j : ℕ) → wider r s → takes r j → takes s j) →
      {r s : X} {i : ℕ} →
      Widened wider good takes b r i →
      wider r s →
      good s →
      takes s i →
      Widened wider good takes b s (i + 1)
  widened_more trans kept {r} {s} {i} w h bounded t =
      record {
        covers = trans r s w.covers h;
        bounded = bounded;
        each = below_more _ i (λ j l. kept r s j h (w.each j l)) t;
      }

module _ (bytes : List ℕ) (l : Layout) (first : ℕ) {i : ℕ} where
  -- a corner, which is a box of its own
  pub corner_taken :
      {b r s : Bounds} {c : Corner} → Widened Covers BoxBounded (takes_corner bytes l first) b r i →
      VectorIs 10000 (corner_number bytes l (first + i)) (wide c) → Joined r (record { low = c; high = c }) s →
      Widened Covers BoxBounded (takes_corner bytes l first) b s (i + 1)
  corner_taken {s = s} {c = c} w is j =
      widened_more (λ r s. covers_trans) (λ r s j. in_wider) w (joined_first j) (joined_bounded j)
      (subst (InBox s) is.value
      (in_wider (joined_second j) (record { low_most = at_most_refl (vec_of (wide c)); high_least = at_most_refl (vec_of (wide c)) })))

  -- a patch
  pub patch_taken :
      {e r s : Extent} → Widened Wider ExtentBounded (takes_patch bytes first) e r i →
      PatchTaken r s (patch_numbered (decode bytes) (first + i)) →
      Widened Wider ExtentBounded (takes_patch bytes first) e s (i + 1)
  patch_taken w t =
      widened_more (λ r s. wider_trans) (λ r s j. encloses_wider) w t.wider t.bounded t.encloses

-- two corners show how far a patch reaches along an axis
two_along :
    (axis : Vec → ℤ) {p : Patch} {u v : Vec} {low high low' high' : ℤ} → Memᴰ u p.corners → Memᴰ v p.corners →
    Extreme upward (axis u) (axis v) low → Extreme downward (axis u) (axis v) high → low ≤ℤ low' → high' ≤ℤ high → Along axis low' high' p
two_along axis {p} {u} {v} {low} {high} {low'} {high'} m n l g h k = record { up = rises g.one_of; down = sinks l.one_of }
  where
    rises : (high ≡ axis u) ⊎ (high ≡ axis v) → (c : Vec) × Memᴰ c p.corners × (high' ≤ℤ axis c)
    rises (inl e) = (u, m, ≤ℤ_trans k (≡→≤ e))
    rises (inr e) = (v, n, ≤ℤ_trans k (≡→≤ e))

    sinks : (low ≡ axis u) ⊎ (low ≡ axis v) → (c : Vec) × Memᴰ c p.corners × (axis c ≤ℤ low')
    sinks (inl e) = (u, m, ≤ℤ_trans (≡→≤ (sym e)) h)
    sinks (inr e) = (v, n, ≤ℤ_trans (≡→≤ (sym e)) h)

pub patch_extent :
    (bytes : List ℕ) (l : Layout) {e : Extent} {k : ℕ} {run : Run} {a b c : Corner} {both grown three outer inner : Bounds} →
    CornersAre bytes l k run → VectorIs 10000 (corner_number bytes l run.first) (wide a) → VectorIs 10000 (corner_number bytes l (run.first + 1)) (wide b) →
    VectorIs 10000 (corner_number bytes l (run.first + 2)) (wide c) →
    Joined (record { low = a; high = a }) (record { low = c; high = c }) both →
    Joined e.outer both grown → Joined grown (record { low = b; high = b }) three →
    Widened Covers BoxBounded (takes_corner bytes l (run.first + 3)) three outer (run.count - 3) → Common e.inner both inner →
    PatchTaken e (record { outer = outer; inner = inner }) (patch_numbered (decode bytes) k)
patch_extent bytes l {e} {k} {run} {a} {b} {c} {both} {grown} {three} {outer} {inner} are ea eb ec j o t w m =
    record {
      wider = record { outer_covers = covers_trans (joined_first o) wide_in; inner_covers = common_first m };
      bounded = record { outer_bounded = w.bounded; inner_bounded = common_bounded m };
      encloses =
          record {
            corners_in =
                rw are.corners_are
                (of_map (InBox outer) (corner_number bytes l) (range run.first run.count)
                (of_range (λ (k : ℕ). InBox outer (corner_number bytes l k)) run.first run.count each));
            x_along = two_along (λ (v : Vec). v.x) first third j.low_is.x_extreme j.high_is.x_extreme s.low_most.x_most s.high_least.x_most;
            y_along = two_along (λ (v : Vec). v.y) first third j.low_is.y_extreme j.high_is.y_extreme s.low_most.y_most s.high_least.y_most;
            z_along = two_along (λ (v : Vec). v.z) first third j.low_is.z_extreme j.high_is.z_extreme s.low_most.z_most s.high_least.z_most;
          };
    }
  where
    p : Patch
    p = patch_numbered (decode bytes) k

    s : Covers inner both
    s = common_second m

    wide_in : Covers grown outer
    wide_in = covers_trans (joined_first t) w.covers

    both_in : Covers both outer
    both_in = covers_trans (joined_second o) wide_in

    -- a corner that was joined by itself
    own : {v : Corner} (i : ℕ) → Covers (record { low = v; high = v }) outer → VectorIs 10000 (corner_number bytes l i) (wide v) → InBox outer (corner_number bytes l i)
    own {v} i h is =
        subst (InBox outer) is.value (in_wider h (record { low_most = at_most_refl (vec_of (wide v)); high_least = at_most_refl (vec_of (wide v)) }))

    moved : {i i' : ℕ} → i ≡ i' → InBox outer (corner_number bytes l i) → InBox outer (corner_number bytes l i')
    moved e h = subst (λ (i : ℕ). InBox outer (corner_number bytes l i)) e h

    each : (i : ℕ) → i < run.count → InBox outer (corner_number bytes l (run.first + i))
    each zero h = moved (sym (add-zero run.first)) (own run.first (covers_trans (joined_first j) both_in) ea)
    each (suc zero) h = own (run.first + 1) (covers_trans (joined_second t) w.covers) eb
    each (suc (suc zero)) h = own (run.first + 2) (covers_trans (joined_second j) both_in) ec
    each (suc (suc (suc i))) h =
        let e : run.first + 3 + i ≡ run.first + suc (suc (suc i)) = omega arith in moved e (w.each i (omega arith))

    corner_of_lem : {i : ℕ} {v : Vec} → run.first ≤ i → i < run.first + run.count → v ≡ corner_number bytes l i → Memᴰ v p.corners
    corner_of_lem {i} low high e =
        rw (are.corners_are, e) (Memᴰ.map (corner_number bytes l) ((in_range run.first run.count i).1 (low, high)))

    first : Memᴰ (vec_of (wide a)) p.corners
    first = corner_of_lem (omega arith) (omega (arith, are.three)) ea.value

    third : Memᴰ (vec_of (wide c)) p.corners
    third = corner_of_lem (omega arith) (omega (arith, are.three)) ec.value
