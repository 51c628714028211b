-- Directions that see every vector of a scene's size on the same side show the same: they meet the same patches, in one order of distances.
use mathlib.Core.Path.{◌≡◌, refl, sym, ◌∙◌, ap, ap₂, subst}
use mathlib.Core.Logic.{◌↔◌, ◌≢◌}
use mathlib.Core.Bool.{not}
use mathlib.Core.List.{List, [], ◌∷◌, Memᴰ}
use Prim.Native.Nat.{ℕ, zero, suc, ◌*◌, ◌<◌}
use native.Mathlib.Nat.{lt_of_mul-lt-mul_left, mul-pos, mul-lt-mul_of_pos_left}
use native.Mathlib.Omega.{arith}
use lib.Dec.{T, T_not, not_T, lit≤, ltb→lt, lt→ltb}
use lib.IntN.{ℤ, pos, negsuc, neg_ℤ, nat_abs, ◌-ℤ◌, ◌*ℤ◌}
use lib.ListN.{length}
use lib.Signed.{◌<ℤ◌, lt_z_yes}
use Rattle.integer.specs.Magnitude.{Within}
use Rattle.integer.proofs.Identity.{ring, reify}
use Rattle.integer.proofs.Order.{<_by, <_diff, Compared, below as less, same, above, compared}
use Rattle.integer.proofs.Products.{*_pos, neg_of_neg}
use Rattle.integer.proofs.Signs.{SameSign, same-≢, same_neg, same_pos, same_refl}
use Rattle.integer.proofs.Magnitude.{within_more, within_literal, size_product, size_positive}
use Rattle.model.specs.Vector.{Vec, minus, times, dot}
use Rattle.model.specs.Bounds.{VecWithin}
use Rattle.model.specs.Patch.{Patch, Edge, Proper, corner, normal, edges, numbered}
use Rattle.model.specs.Ray.{eye_product, edge_vector, met, distance, below, IsClosest, none_met, shows}
use Rattle.model.specs.Booking.{HasCell}
use Rattle.model.proofs.Rounds.{edge_ends}
use Rattle.model.proofs.Patches.{corner_mem, met_says}
use Rattle.model.proofs.Sides.{distance_positive}
use Rattle.model.proofs.Sizes.{vec_more, minus_within, times_within, cross_within, dot_within}
use Rattle.model.proofs.Ranges.{get_d_member}

-- how large the vectors are that decide what is met and which of two patches is nearer
abbrev pub largest : ℕ
largest = 76800000000000000000000

-- two directions see every such vector on the same side
pub record Alike (D D' : Vec) : Type 0 where
  pub sides : {v : Vec} → VecWithin largest v → (pos 0 <ℤ dot D v) ↔ (pos 0 <ℤ dot D' v)

pub alike_sym : {D D' : Vec} → Alike D D' → Alike D' D
alike_sym a = record { sides = λ h. ((a.sides h).1, (a.sides h).0) }

-- what is on the same side of a vector and of its opposite has the same sign there as any number
pub same_side :
    (D D' v : Vec) → (pos 0 <ℤ dot D v → pos 0 <ℤ dot D' v) →
    (pos 0 <ℤ dot D (times (negsuc 0) v) → pos 0 <ℤ dot D' (times (negsuc 0) v)) →
    (k : ℤ) → SameSign k (dot D v) → SameSign k (dot D' v)
same_side D D' v ahead behind k g = go (compared (pos 0) k)
  where
    turned : (E : Vec) → dot E (times (negsuc 0) v) ≡ neg_ℤ (dot E v)
    turned E = ring (E.x ∷ E.y ∷ E.z ∷ v.x ∷ v.y ∷ v.z ∷ []) (search reify depth 40 fits 200000, tt)

    go : Compared (pos 0) k → SameSign k (dot D' v)
    go (less l) = record { agree = *_pos l (ahead (same_pos l g)) }
    go (same e) = absurd (same-≢ g (sym e))
    go (above l) =
        let x : pos 0 <ℤ neg_ℤ (dot D v) = same_pos (neg_of_neg l) (same_neg g) in
        let y : pos 0 <ℤ neg_ℤ (dot D' v) = subst (pos 0 <ℤ◌) (turned D') (behind (subst (pos 0 <ℤ◌) (sym (turned D)) x)) in
        record { agree = <_by (*_pos (neg_of_neg l) y) (ring (k ∷ dot D' v ∷ []) (search reify depth 40 fits 200000, tt)) }

pub turned_within : {v : Vec} → VecWithin largest v → VecWithin largest (times (negsuc 0) v)
turned_within h = vec_more (times_within {n = 1} {k = negsuc 0} (within_literal tt) h) (lit≤ tt)

alike_sign : {D D' : Vec} → Alike D D' → {v : Vec} → VecWithin largest v → (k : ℤ) → SameSign k (dot D v) → SameSign k (dot D' v)
alike_sign {D} {D'} a {v} h = same_side D D' v (a.sides h).0 (a.sides (turned_within h)).0

-- ---- which of two distances is less
-- of two fractions above 0 the first is below the second exactly when this number has the sign of the numerators' product
module _ {σ δ σ' δ' : ℤ} (g : SameSign σ δ) (g' : SameSign σ' δ') where
  whole : {a b : ℤ} → SameSign a b → a *ℤ b ≡ pos (nat_abs a * nat_abs b)
  whole {a} {b} h = size_positive h.agree ∙ ap pos (size_product a b)

  scaled : (σ *ℤ σ') *ℤ (σ' *ℤ δ -ℤ σ *ℤ δ') ≡ pos (nat_abs σ' * nat_abs σ') *ℤ pos (nat_abs σ * nat_abs δ) -ℤ pos (nat_abs σ * nat_abs σ) *ℤ pos (nat_abs σ' * nat_abs δ')
  scaled =
      ring (σ ∷ δ ∷ σ' ∷ δ' ∷ []) (search reify depth 40 fits 200000, tt)
      ∙ ap₂ ◌-ℤ◌ (ap₂ ◌*ℤ◌ (whole (same_refl (same-≢ g'))) (whole g)) (ap₂ ◌*ℤ◌ (whole (same_refl (same-≢ g))) (whole g'))

  positive : {a : ℤ} {b : ℤ} → SameSign a b → 0 < nat_abs a
  positive {a} h = size a (same-≢ h)
    where
      size : (a : ℤ) → a ≢ pos 0 → 0 < nat_abs a
      size (pos zero) f = absurd (f refl)
      size (pos (suc n)) f = omega arith
      size (negsuc n) f = omega arith

  abbrev here : ℕ
  here = (nat_abs σ * nat_abs σ) * (nat_abs σ' * nat_abs δ')

  abbrev there : ℕ
  there = (nat_abs σ' * nat_abs σ') * (nat_abs σ * nat_abs δ)

  below_sign : (nat_abs σ * nat_abs δ' < nat_abs σ' * nat_abs δ) ↔ SameSign (σ *ℤ σ') (σ' *ℤ δ -ℤ σ *ℤ δ')
  below_sign = (
    λ h.
        let k : here < there = omega (arith, mul-lt-mul_of_pos_left h (mul-pos (positive g) (positive g'))) in
        record { agree = subst (pos 0 <ℤ◌) (sym scaled) (<_diff {a = pos here} {b = pos there} (lt_z_yes (lt→ltb here there k))) },
    λ h.
        let k : pos here <ℤ pos there = <_by (subst (pos 0 <ℤ◌) scaled h.agree) refl in
        let l : here < there = ltb→lt here there k.lt in
        lt_of_mul-lt-mul_left (nat_abs σ * nat_abs σ') (omega arith),
  )

-- ---- patches within the range of coordinates
pub record Ranged (p : Patch) : Type 0 where
  pub corners : {c : Vec} → Memᴰ c p.corners → VecWithin 10000 c

-- the patches of a list as an accepted scene has them
pub record Sound (ps : List Patch) : Type 0 where
  pub proper : (p : Patch) → Memᴰ p ps → Proper p
  pub ranged : (p : Patch) → Memᴰ p ps → Ranged p

module _ {eye : Vec} (eye_within : VecWithin 10000 eye) where
  module _ {p : Patch} (ranged : Ranged p) where
    pub edge_within : {e : Edge} → Memᴰ e (edges p.corners) → VecWithin 800000000 (edge_vector eye e)
    edge_within l =
        vec_more
        (cross_within (minus_within (ranged.corners (edge_ends l).0) eye_within) (minus_within (ranged.corners (edge_ends l).1) eye_within))
        (lit≤ tt)

    pub alike_met : {D D' : Vec} → Alike D D' → T (met eye D p) → T (met eye D' p)
    alike_met {D} {D'} a t =
        let m = (met_says eye D p).0 t in
        (met_says eye D' p).1
        (record { faced = m.faced; passed = λ l. alike_sign a (vec_more (edge_within l) (lit≤ tt)) (eye_product eye p) (m.passed l) })

  module _ {p : Patch} (proper : Proper p) (ranged : Ranged p) where
    corner_within : (k : ℕ) → k < 3 → VecWithin 10000 (corner p k)
    corner_within k l = ranged.corners (corner_mem proper k l)

    pub normal_within : VecWithin 800000000 (normal p)
    normal_within =
        let a = corner_within 0 (omega arith) in
        vec_more (cross_within (minus_within (corner_within 1 (omega arith)) a) (minus_within (corner_within 2 (omega arith)) a)) (lit≤ tt)

    product_within : Within 48000000000000 (eye_product eye p)
    product_within = within_more (dot_within (minus_within (corner_within 0 (omega arith)) eye_within) normal_within) (lit≤ tt)

  -- which of two patches is nearer is the side of a vector too
  abbrev nearer_by : Patch → Patch → Vec
  nearer_by p q = minus (times (eye_product eye q) (normal p)) (times (eye_product eye p) (normal q))

  module _ {p q : Patch} (P : Proper p) (p_ranged : Ranged p) (Q : Proper q) (q_ranged : Ranged q) where
    nearer_within : VecWithin largest (nearer_by p q)
    nearer_within =
        vec_more
        (minus_within (times_within (product_within Q q_ranged) (normal_within P p_ranged)) (times_within (product_within P p_ranged) (normal_within Q q_ranged)))
        (lit≤ tt)

    nearer_dot : (D : Vec) → dot D (nearer_by p q) ≡ eye_product eye q *ℤ dot D (normal p) -ℤ eye_product eye p *ℤ dot D (normal q)
    nearer_dot D = go (eye_product eye q) (eye_product eye p) (normal p) (normal q)
      where
        go : (k l : ℤ) (u v : Vec) → dot D (minus (times k u) (times l v)) ≡ k *ℤ dot D u -ℤ l *ℤ dot D v
        go k l u v = ring (D.x ∷ D.y ∷ D.z ∷ u.x ∷ u.y ∷ u.z ∷ v.x ∷ v.y ∷ v.z ∷ k ∷ l ∷ []) (search reify depth 40 fits 200000, tt)

    below_says : (D : Vec) → T (met eye D p) → T (met eye D q) →
        T (below (distance eye D p) (distance eye D q)) ↔ SameSign (eye_product eye p *ℤ eye_product eye q) (dot D (nearer_by p q))
    below_says D hp hq =
        let law = below_sign (distance_positive eye D P hp) (distance_positive eye D Q hq) in (
          λ t. subst (SameSign (eye_product eye p *ℤ eye_product eye q)) (sym (nearer_dot D)) (law.0 (ltb→lt _ _ t)),
          λ g. lt→ltb _ _ (law.1 (subst (SameSign (eye_product eye p *ℤ eye_product eye q)) (nearer_dot D) g)),
        )

    alike_below : {D D' : Vec} → Alike D D' → T (met eye D p) → T (met eye D q) →
        T (below (distance eye D p) (distance eye D q)) → T (below (distance eye D' p) (distance eye D' q))
    alike_below {D} {D'} a hp hq t =
        (below_says D' (alike_met p_ranged a hp) (alike_met q_ranged a hq)).1
        (alike_sign a nearer_within (eye_product eye p *ℤ eye_product eye q) ((below_says D hp hq).0 t))

  module _ {ps : List Patch} (sound : Sound ps) where
    module _ {D D' : Vec} (a : Alike D D') where
      forth : (q : Patch) → Memᴰ q ps → T (met eye D q) → T (met eye D' q)
      forth q k u = alike_met (sound.ranged q k) a u

      back : (q : Patch) → Memᴰ q ps → T (met eye D' q) → T (met eye D q)
      back q k u = alike_met (sound.ranged q k) (alike_sym a) u

      -- no nearer along the one, no nearer along the other
      no_nearer :
          (p q : Patch) → Memᴰ p ps → Memᴰ q ps → T (met eye D' p) → T (met eye D' q) →
          T (not (below (distance eye D p) (distance eye D q))) → T (not (below (distance eye D' p) (distance eye D' q)))
      no_nearer p q k l s t u =
          not_T (below (distance eye D' p) (distance eye D' q))
          (λ b. T_not (below (distance eye D p) (distance eye D q)) u (alike_below (sound.proper p k) (sound.ranged p k) (sound.proper q l) (sound.ranged q l) (alike_sym a) s t b))

    pub alike_closest : {D D' : Vec} → Alike D D' → {n : ℕ} → IsClosest eye D ps n → IsClosest eye D' ps n
    alike_closest a (none_met f) = none_met (λ q m t. f q m (back a q m t))
    alike_closest a (shows p m t near low) =
        shows p m (forth a p m t) (λ q k u. no_nearer a q p k m u (forth a p m t) (near q k (back a q k u)))
        (λ q k u v. low q k (back a q k u) (no_nearer (alike_sym a) p q m k t (back a q k u) v))

    pub alike_has : {D D' : Vec} → Alike D D' → (k : ℕ) → k < length ps → HasCell eye D ps k → HasCell eye D' ps k
    alike_has {D} {D'} a k hk h =
        record {
          is_met = is_met;
          nearest = λ m hm t. no_nearer a (at m) (at k) (mem m hm) (mem k hk) t is_met (h.nearest m hm (back a (at m) (mem m hm) t));
          lowest = λ m hm t u. h.lowest m hm (back a (at m) (mem m hm) t) (level m hm t u);
          earliest = λ m hm t u. h.earliest m hm (back a (at m) (mem m hm) t) (level m hm t u);
        }
      where
        at : ℕ → Patch
        at = numbered ps

        mem : (m : ℕ) → m < length ps → Memᴰ (at m) ps
        mem m hm = get_d_member ps m _ hm

        is_met : T (met eye D' (at k))
        is_met = forth a (at k) (mem k hk) h.is_met

        level :
            (m : ℕ) → m < length ps → T (met eye D' (at m)) →
            T (not (below (distance eye D' (at k)) (distance eye D' (at m)))) →
            T (not (below (distance eye D (at k)) (distance eye D (at m))))
        level m hm t u = no_nearer (alike_sym a) (at k) (at m) (mem k hk) (mem m hm) h.is_met (back a (at m) (mem m hm) t) u
