-- Cuttings that cover the same points show the same along each generic line from one eye.
use mathlib.Core.Path.{◌≡◌, refl, subst}
use mathlib.Core.Logic.{◌≢◌}
use mathlib.Core.Bool.{not}
use mathlib.Core.List.{List, Memᴰ}
use Prim.Native.Nat.{ℕ, ◌≤◌, ◌<◌}
use native.Mathlib.Omega.{arith}
use lib.Dec.{T, T_not, not_T}
use lib.IntN.{pos}
use Rattle.model.specs.Vector.{Vec}
use Rattle.model.specs.Bounds.{VecWithin}
use Rattle.model.specs.Patch.{Patch}
use Rattle.model.specs.Ray.{eye_product, met, distance, closest, IsClosest, none_met, shows}
use Rattle.model.proofs.Patches.{met_says}
use Rattle.model.proofs.Precedes.{nearer, equal_not_below, not_nearer_trans}
use Rattle.model.proofs.Closest.{closest_right, closest_only}
use Rattle.model.proofs.Alike.{Sound}
use Rattle.coverage.specs.Coverage.{covered, PanelCovers}
use Rattle.coverage.proofs.Covered.{covered_says}
use Rattle.coverage.proofs.Generic.{Generic}
use Rattle.coverage.proofs.MetPoint.{met_numerators, met_denominator, denominator_positive, covers_met, one_point, met_covers}

-- What one eye asks of two lists: a piece of the first whose plane does not hold the eye has, for each point that it covers, a piece of its panel in the second that
-- covers the point. (Both faces show, so no piece is turned away from the eye.)
pub record Matched (eye : Vec) (ps qs : List Patch) : Type 0 where
  pub matched :
      (p : Patch) → Memᴰ p ps → eye_product eye p ≢ pos 0 →
      (q : Vec) (k : ℕ) → 0 < k → T (covered p q k) → PanelCovers qs p.panel q k

-- a list that covers whatever another does matches it, from every eye
pub covers_matched :
    {ps qs : List Patch} → ((n : ℕ) (q : Vec) (k : ℕ) → 0 < k → PanelCovers ps n q k → PanelCovers qs n q k) →
    (eye : Vec) → Matched eye ps qs
covers_matched covers eye =
    record { matched = λ p m _ q k h t. covers p.panel q k h (record { piece = p; listed = m; of_panel = refl; covers = t }) }

module _ {eye D : Vec} (eye_within : VecWithin 10000 eye) (generic : Generic D) where
  -- a piece of a list that the line meets where it meets p, of the same panel (no farther than p, which is enough)
  record Counterpart (rs : List Patch) (p : Patch) : Type 0 where
    piece : Patch
    listed : Memᴰ piece rs
    of_panel : piece.panel ≡ p.panel
    is_met : T (met eye D piece)
    not_farther : T (nearer eye D p piece) → ⊥

  counterpart :
      {ps qs : List Patch} → Sound ps → Sound qs → Matched eye ps qs →
      (p : Patch) → Memᴰ p ps → T (met eye D p) → Counterpart qs p
  counterpart P Q match p m h =
      let proper = P.proper p m in
      let c =
      match.matched p m ((met_says eye D p).0 h).faced (met_numerators eye D p) (met_denominator eye D p) (denominator_positive eye D proper h)
      ((covered_says p _ _).1 (covers_met eye D proper h)) in
      let r = c.piece in
      let on = (covered_says r _ _).0 c.covers in
      record {
        piece = r;
        listed = c.listed;
        of_panel = c.of_panel;
        is_met = met_covers eye D proper h on eye_within generic (Q.proper r c.listed) (Q.ranged r c.listed);
        not_farther = equal_not_below (distance eye D p) (distance eye D r) (one_point eye D proper h on);
      }

  module _
      {ps qs : List Patch} (P : Sound ps) (Q : Sound qs) (forth : Matched eye ps qs) (back : Matched eye qs ps)
    where
      -- For one eye and two lists, each matched by the other: along a generic line their closest panels are one. Pieces may overlap, repeat and be turned round.
      pub cuttings_agree : closest eye D ps ≡ closest eye D qs
      cuttings_agree = closest_only eye D qs (carried (closest_right eye D ps))
        where
          carried : {n : ℕ} → IsClosest eye D ps n → IsClosest eye D qs n
          carried (none_met f) = none_met (λ q m h. let c = counterpart Q P back q m h in f c.piece c.listed c.is_met)
          carried (shows p m h least lowest) =
              subst (IsClosest eye D qs) r.of_panel (shows r.piece r.listed r.is_met least' lowest')
            where
              r : Counterpart qs p
              r = counterpart P Q forth p m h

              least' : (q : Patch) → Memᴰ q qs → T (met eye D q) → T (not (nearer eye D q r.piece))
              least' q k u =
                  let c = counterpart Q P back q k u in
                  not_T (nearer eye D q r.piece)
                  (not_nearer_trans eye D q c.piece r.piece c.is_met c.not_farther
                  (not_nearer_trans eye D c.piece p r.piece h
                  (T_not (nearer eye D c.piece p) (least c.piece c.listed c.is_met)) r.not_farther))

              lowest' :
                  (q : Patch) → Memᴰ q qs → T (met eye D q) → T (not (nearer eye D r.piece q)) → r.piece.panel ≤ q.panel
              lowest' q k u v =
                  let c = counterpart Q P back q k u in
                  let l : p.panel ≤ c.piece.panel =
                  lowest c.piece c.listed c.is_met
                  (not_T (nearer eye D p c.piece)
                  (not_nearer_trans eye D p r.piece c.piece r.is_met r.not_farther
                  (not_nearer_trans eye D r.piece q c.piece u (T_not (nearer eye D r.piece q) v) c.not_farther))) in
                  omega (arith, r.of_panel, c.of_panel)
