-- The rays of a row, or of a column, lie in one plane through the eye, and the lines just beside them in one just beside it. Where a patch has all corners strictly on one
-- side of the first, it has them on that side of the second, and none of these lines meets the patch.
use mathlib.Core.Path.{◌≡◌, ◌∙◌, ap₂, subst}
use mathlib.Core.Bool.{false}
use mathlib.Core.Logic.{inl}
use mathlib.Core.List.{[], ◌∷◌, Memᴰ}
use Prim.Native.Nat.{ℕ, ◌*◌}
use lib.Dec.{lit≤}
use lib.IntN.{ℤ, pos, ◌+ℤ◌, ◌*ℤ◌}
use lib.Signed.{◌<ℤ◌, <ℤ_irrefl, lt_z_yes, le_z_yes}
use Rattle.integer.specs.Magnitude.{Within}
use Rattle.integer.proofs.Magnitude.{within_literal, within_more, within_product}
use Rattle.integer.proofs.Identity.{ring, reify}
use Rattle.integer.proofs.Order.{<→≤}
use Rattle.model.specs.Vector.{Vec, vec, minus, plus, times, dot, cross}
use Rattle.model.specs.Bounds.{VecWithin}
use Rattle.model.specs.Patch.{Patch, corner, Proper}
use Rattle.model.specs.Ray.{met}
use Rattle.model.specs.Beside.{fine}
use Rattle.model.proofs.Tests.{same_test}
use Rattle.model.proofs.Patches.{first_corner}
use Rattle.model.proofs.Fan.{met_ahead}
use Rattle.model.proofs.Sizes.{minus_within, dot_within}
use Rattle.model.proofs.Steep.{Steep, weighted, weighted_says}
use Rattle.model.proofs.Alike.{Ranged}
use Rattle.geometry.specs.declared.Raster.{Raster}
use Rattle.geometry.specs.Machine.{vec_of}
use Rattle.geometry.specs.Raster.{line_at}
use Rattle.geometry.proofs.Sizes.{vec_within}
use Rattle.reach.specs.declared.Planes.{Planes}
use Rattle.reach.specs.Planes.{PlanesOf, normal_at}

missed :
    (eye d N : Vec) {p : Patch} → dot d N ≡ pos 0 → Proper p →
    ((c : Vec) → Memᴰ c p.corners → pos 0 <ℤ dot (minus c eye) N) →
    met eye d p ≡ false
missed eye d N {p} square proper above =
    same_test (met eye d p) false
    (λ h.
    <ℤ_irrefl
    (subst (pos 0 <ℤ◌) square
    (met_ahead eye d proper h N (λ c l. <→≤ (above c l)) (first_corner proper) (above (corner p 0) (first_corner proper)))))
    (λ t. absurd t)

-- ---- lines α · ray + ε · along + ω · next, just beside the rays origin + i · along + k · next

-- the normal of the plane that they lie in for one k, times a sign
abbrev line_normal : ℤ → ℤ → Planes → ℤ → ℕ → Vec
line_normal α ω n sign k = plus (times α (normal_at n sign k)) (times (ω *ℤ sign) (vec_of n.next))

-- (α (o + i u + k v) + ε u + ω v) · (α (u × o + k (u × v)) + ω (u × v)) = 0
square :
    (o u v : Vec) (i k sign α ε ω : ℤ) →
    dot (plus (plus (times α (plus (plus o (times i u)) (times k v))) (times ε u)) (times ω v))
    (plus (times α (times sign (plus (cross u o) (times k (cross u v))))) (times (ω *ℤ sign) (cross u v)))
    ≡ pos 0
square o u v i k sign α ε ω =
    ring
    (o.x ∷ o.y ∷ o.z ∷ u.x ∷ u.y ∷ u.z ∷ v.x ∷ v.y ∷ v.z ∷ i ∷ k ∷ sign ∷ α ∷ ε ∷ ω ∷ [])
    (search reify depth 40 fits 200000, tt)

-- a corner that lies beside the plane of the rays lies beside that of the lines: what the second plane is turned by weighs too little
beside_line :
    (c N M : Vec) {sign α ω : ℤ} → Steep (pos 13512000000000) α ω (pos 1) → Within 1 sign → VecWithin 20000 c → VecWithin 225200000 M → pos 0 <ℤ dot c N →
    pos 0 <ℤ dot c (plus (times α N) (times (ω *ℤ sign) M))
beside_line c N M {sign} {α} {ω} steep one small next above =
    subst (pos 0 <ℤ◌) turned
    ((weighted_says steep {y = sign *ℤ dot c M} {z = pos 0} (within_more (within_product one (dot_within small next)) (lit≤ tt)) (within_literal tt)).1 (inl above))
  where
    turned : weighted α ω (pos 1) (dot c N) (sign *ℤ dot c M) (pos 0) ≡ dot c (plus (times α N) (times (ω *ℤ sign) M))
    turned =
        ring
        (c.x ∷ c.y ∷ c.z ∷ N.x ∷ N.y ∷ N.z ∷ M.x ∷ M.y ∷ M.z ∷ sign ∷ α ∷ ω ∷ [])
        (search reify depth 40 fits 200000, tt)

module _ {o u v : Vec} {n : Planes} (h : PlanesOf o u v n) {α ω : ℤ} (steep : Steep (pos 13512000000000) α ω (pos 1)) (ε : ℤ) where
  line_square :
      (sign : ℤ) (i k : ℕ) →
      dot (plus (plus (times α (plus (plus o (times (pos i) u)) (times (pos k) v))) (times ε u)) (times ω v)) (line_normal α ω n sign k) ≡ pos 0
  line_square sign i k =
      ap₂
      (λ (f g : Vec).
      dot (plus (plus (times α (plus (plus o (times (pos i) u)) (times (pos k) v))) (times ε u)) (times ω v))
      (plus (times α (times sign (plus f (times (pos k) g)))) (times (ω *ℤ sign) g)))
      h.first_is.value h.next_is.value
      ∙ square o u v (pos i) (pos k) sign α ε ω

  plane_missed :
      (eye : Vec) (sign : ℤ) (k : ℕ) {p : Patch} → Within 1 sign → VecWithin 10000 eye → Proper p → Ranged p →
      ((c : Vec) → Memᴰ c p.corners → pos 0 <ℤ dot (minus c eye) (normal_at n sign k)) →
      (i : ℕ) →
      met eye (plus (plus (times α (plus (plus o (times (pos i) u)) (times (pos k) v))) (times ε u)) (times ω v)) p ≡ false
  plane_missed eye sign k one near proper ranged above i =
      missed eye _ (line_normal α ω n sign k) (line_square sign i k) proper
      (λ c m.
      beside_line (minus c eye) (normal_at n sign k) (vec_of n.next) steep one (minus_within (ranged.corners m) near) (vec_within h.next_is.bounded) (above c m))

-- ---- rows and columns of a raster

-- the way to the next row, and that to the next column, against a ray
down_little : Steep (pos 13512000000000) (pos (fine * (fine * fine))) (pos fine) (pos 1)
down_little = record { size = le_z_yes tt; last = lt_z_yes tt; middle = lt_z_yes tt; first = lt_z_yes tt }

across_little : Steep (pos 13512000000000) (pos (fine * (fine * fine))) (pos (fine * fine)) (pos 1)
across_little = record { size = le_z_yes tt; last = lt_z_yes tt; middle = lt_z_yes tt; first = lt_z_yes tt }

-- a line is the same whether its row or its column is named first
exchanged : (o a b i j α β γ : ℤ) → α *ℤ (o +ℤ j *ℤ b +ℤ i *ℤ a) +ℤ γ *ℤ b +ℤ β *ℤ a ≡ α *ℤ (o +ℤ i *ℤ a +ℤ j *ℤ b) +ℤ β *ℤ a +ℤ γ *ℤ b
exchanged o a b i j α β γ = ring (o ∷ a ∷ b ∷ i ∷ j ∷ α ∷ β ∷ γ ∷ []) (search reify depth 40 fits 200000, tt)

exchanged_line :
    (o a b : Vec) (i j α β γ : ℤ) →
    plus (plus (times α (plus (plus o (times j b)) (times i a))) (times γ b)) (times β a)
    ≡ plus (plus (times α (plus (plus o (times i a)) (times j b))) (times β a)) (times γ b)
exchanged_line o a b i j α β γ =
    λ t.
    vec (exchanged o.x a.x b.x i j α β γ t) (exchanged o.y a.y b.y i j α β γ t) (exchanged o.z a.z b.z i j α β γ t)

module _ (r : Raster) (eye : Vec) (sign : ℤ) {n : Planes} {p : Patch} (one : Within 1 sign) (near : VecWithin 10000 eye) (proper : Proper p) (ranged : Ranged p) where
  pub row_missed :
      PlanesOf (vec_of r.origin) (vec_of r.across) (vec_of r.down) n → (j : ℕ) →
      ((c : Vec) → Memᴰ c p.corners → pos 0 <ℤ dot (minus c eye) (normal_at n sign j)) →
      (i : ℕ) → met eye (line_at r i j) p ≡ false
  unfolding line_at
  row_missed h j above i = plane_missed h down_little (pos (fine * fine)) eye sign j one near proper ranged above i

  pub column_missed :
      PlanesOf (vec_of r.origin) (vec_of r.down) (vec_of r.across) n → (i : ℕ) →
      ((c : Vec) → Memᴰ c p.corners → pos 0 <ℤ dot (minus c eye) (normal_at n sign i)) →
      (j : ℕ) → met eye (line_at r i j) p ≡ false
  unfolding line_at
  column_missed h i above j =
      subst (λ (d : Vec). met eye d p ≡ false)
      (exchanged_line (vec_of r.origin) (vec_of r.across) (vec_of r.down) (pos i) (pos j) (pos (fine * (fine * fine))) (pos (fine * fine)) (pos fine))
      (plane_missed h across_little (pos fine) eye sign i one near proper ranged above j)
