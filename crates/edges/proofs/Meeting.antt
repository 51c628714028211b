-- The line just beside a ray meets a patch exactly where the patch's edge functions are above 0 at the ray.
use mathlib.Core.Path.{◌≡◌, refl, sym, ap, subst, ◌∙◌}
use mathlib.Core.Logic.{◌≢◌}
use mathlib.Core.Bool.{false, ◌&&◌}
use mathlib.Core.List.Memᴰ
use mathlib.Core.List.{List, [], ◌∷◌, map, map-map, Memᴰ}
use Prim.Native.Nat.{ℕ, zero, suc, ◌+◌, ◌*◌, ◌<◌}
use native.Mathlib.Nat.{not-suc-le-zero, zero-add}
use native.Mathlib.Omega.{arith}
use lib.IntN.{ℤ, pos, negsuc, ◌+ℤ◌, ◌*ℤ◌}
use lib.ListN.{length}
use lib.Signed.{lt_z, lt_z_yes, le_z_yes}
use Rattle.integer.specs.Magnitude.{sign_of}
use Rattle.integer.proofs.Identity.{ring, reify}
use Rattle.model.specs.Lists.{range}
use Rattle.model.specs.Vector.{Vec, plus, dot, times}
use Rattle.model.specs.Patch.{Patch, Edge, edges}
use Rattle.model.specs.Ray.{eye_product, edge_vector, edge_number, met}
use Rattle.model.specs.Beside.{fine}
use Rattle.model.proofs.Tests.{same_test}
use Rattle.model.proofs.Ranges.{of_map, of_range}
use Rattle.model.proofs.Steep.{Steep, weighted}
use Rattle.geometry.specs.declared.Raster.{Raster}
use Rattle.geometry.specs.declared.EdgeFunction.{EdgeFunction}
use Rattle.geometry.specs.Machine.{vec_of}
use Rattle.geometry.specs.Raster.{ray_at, line_at, counts_in, seen_by, FunctionBounded}
use Rattle.geometry.proofs.CountsIn.{weighted_start}
use Rattle.model.proofs.Tables.{length_table, same_table}
use Rattle.spans.specs.Row.{number_in, all_above}
use Rattle.edges.specs.declared.Sight.{Sight}
use Rattle.edges.specs.Edges.{oriented_edges}
use Rattle.edges.proofs.Orientation.{inside, every_map, met_none, met_inside}
use Rattle.edges.proofs.Places.{edge_numbered, from_corner, oriented_table, oriented_at}

-- with the eye in the patch's plane all its edge vectors are 0
dot_nought : (d v : Vec) → dot d (times (pos 0) v) ≡ pos 0
dot_nought d v = ring (d.x ∷ d.y ∷ d.z ∷ v.x ∷ v.y ∷ v.z ∷ []) (search reify depth 40 fits 200000, tt)

inside_nought :
    (d : Vec) (f : Edge → Vec) (es : List Edge) → 0 < length (map (λ (e : Edge). times (pos 0) (f e)) es) →
    inside d (map (λ (e : Edge). times (pos 0) (f e)) es) ≡ false
unfolding inside
inside_nought d f [] h = absurd (not-suc-le-zero h)
inside_nought d f (e ∷ es) h =
    ap (λ (z : ℤ). lt_z (pos 0) z && inside d (map (λ (e : Edge). times (pos 0) (f e)) es)) (dot_nought d (f e))

met_edges : (eye d : Vec) (p : Patch) → 0 < length (oriented_edges eye p) → inside d (oriented_edges eye p) ≡ met eye d p
unfolding oriented_edges sign_of
met_edges eye d p h = go (eye_product eye p) refl
  where
    level : eye_product eye p ≡ pos 0 → inside d (oriented_edges eye p) ≡ met eye d p
    level e =
        let s : sign_of (eye_product eye p) ≡ pos 0 = ap sign_of e in
        subst
        (λ (z : ℤ).
        0 < length (map (λ (e : Edge). times z (edge_vector eye e)) (edges p.corners))
        → inside d (map (λ (e : Edge). times z (edge_vector eye e)) (edges p.corners)) ≡ met eye d p)
        (sym s) (λ k. inside_nought d (edge_vector eye) (edges p.corners) k ∙ sym (met_none eye d p e)) h

    go : (z : ℤ) → eye_product eye p ≡ z → inside d (oriented_edges eye p) ≡ met eye d p
    go (pos zero) e = level e
    go (pos (suc n)) e = sym (met_inside eye d p (λ f. above (sym e ∙ f)))
      where
        above : pos (suc n) ≢ pos 0
        above f = let z : ◌≡◌ {A = ℕ} 0 1 = cc in omega arith
    go (negsuc n) e = sym (met_inside eye d p (λ f. below (sym e ∙ f)))
      where
        below : negsuc n ≢ pos 0
        below f = let z : ◌≡◌ {A = ℕ} 0 1 = cc in omega arith

-- what a raster sees of an edge vector: its product with the ray, one more where the edge counts in
ray_number :
    (r : Raster) (e : Vec) (i j : ℕ) →
    number_in (seen_by r e) i j ≡ edge_number (ray_at r i j) e +ℤ counts_in (dot (vec_of r.across) e) (dot (vec_of r.down) e)
ray_number r e i j =
    go (vec_of r.origin) (vec_of r.across) (vec_of r.down) (pos i) (pos j) (counts_in (dot (vec_of r.across) e) (dot (vec_of r.down) e))
  where
    go :
        (o a d : Vec) (x y c : ℤ) →
        dot a e *ℤ x +ℤ (dot d e *ℤ y +ℤ (dot o e +ℤ c)) ≡ dot (plus (plus o (times x a)) (times y d)) e +ℤ c
    go o a d x y c =
        ring
        (o.x ∷ o.y ∷ o.z ∷ a.x ∷ a.y ∷ a.z ∷ d.x ∷ d.y ∷ d.z ∷ e.x ∷ e.y ∷ e.z ∷ x ∷ y ∷ c ∷ [])
        (search reify depth 40 fits 200000, tt)

-- the product with the line just beside the ray
line_number :
    (r : Raster) (e : Vec) (i j : ℕ) →
    edge_number (line_at r i j) e
    ≡ weighted (pos (fine * (fine * fine))) (pos (fine * fine)) (pos fine) (edge_number (ray_at r i j) e) (dot (vec_of r.across) e) (dot (vec_of r.down) e)
unfolding line_at
line_number r e i j =
    go (ray_at r i j) (vec_of r.across) (vec_of r.down) (pos (fine * (fine * fine))) (pos (fine * fine)) (pos fine)
  where
    go :
        (d a b : Vec) (α β γ : ℤ) →
        dot (plus (plus (times α d) (times β a)) (times γ b)) e ≡ weighted α β γ (dot d e) (dot a e) (dot b e)
    go d a b α β γ =
        ring
        (d.x ∷ d.y ∷ d.z ∷ a.x ∷ a.y ∷ a.z ∷ b.x ∷ b.y ∷ b.z ∷ e.x ∷ e.y ∷ e.z ∷ α ∷ β ∷ γ ∷ [])
        (search reify depth 40 fits 200000, tt)

-- the line is near enough to the ray for numbers that are so small along the row and down
line_steep : Steep (pos 480000000000) (pos (fine * (fine * fine))) (pos (fine * fine)) (pos fine)
line_steep = record { size = le_z_yes tt; last = lt_z_yes tt; middle = lt_z_yes tt; first = lt_z_yes tt }

-- so what it sees is above 0 exactly where the line passes on the edge's side
line_seen :
    (r : Raster) (e : Vec) (i j : ℕ) → FunctionBounded (seen_by r e) →
    lt_z (pos 0) (number_in (seen_by r e) i j) ≡ lt_z (pos 0) (edge_number (line_at r i j) e)
line_seen r e i j h =
    let says = weighted_start line_steep (edge_number (ray_at r i j) e) h.slope_within h.drop_within in
    ap (lt_z (pos 0)) (ray_number r e i j)
    ∙ same_test _ _ (λ t. (says.1 (lt_z_yes t)).lt) (λ t. (says.0 (lt_z_yes t)).lt)
    ∙ sym (ap (lt_z (pos 0)) (line_number r e i j))

all_seen :
    (r : Raster) (es : List Vec) (i j : ℕ) → ((f : EdgeFunction) → Memᴰ f (map (seen_by r) es) → FunctionBounded f) →
    all_above (map (seen_by r) es) i j ≡ inside (line_at r i j) es
unfolding all_above inside
all_seen r es i j h = every_map (seen_by r) _ _ es (λ e m. line_seen r e i j (h (seen_by r e) (Memᴰ.map (seen_by r) m)))

pub met_seen :
    (s : Sight) (p : Patch) (count : ℕ) → length p.corners ≡ count → 0 < count →
    ((m : ℕ) → m < count → FunctionBounded (seen_by s.raster (edge_numbered (vec_of s.eye) p m))) → (i j : ℕ) →
    all_above (map (λ (m : ℕ). seen_by s.raster (edge_numbered (vec_of s.eye) p m)) (range 0 count)) i j ≡ met (vec_of s.eye) (line_at s.raster i j) p
met_seen s p count c some bounds i j =
    ap (λ (fs : List EdgeFunction). all_above fs i j) are
    ∙ all_seen s.raster (oriented_edges (vec_of s.eye) p) i j (subst (λ (fs : List EdgeFunction). (f : EdgeFunction) → Memᴰ f fs → FunctionBounded f) are each)
    ∙ met_edges (vec_of s.eye) (line_at s.raster i j) p (omega (arith, many))
  where
    seen : ℕ → EdgeFunction
    seen m = seen_by s.raster (edge_numbered (vec_of s.eye) p m)

    are : map seen (range 0 count) ≡ map (seen_by s.raster) (oriented_edges (vec_of s.eye) p)
    are =
        same_table seen (λ (k : ℕ). seen_by s.raster (from_corner (vec_of s.eye) p k)) 0 0 count
        (λ k b. ap (seen_by s.raster) (oriented_at (vec_of s.eye) p (0 + k) (omega (arith, c))))
        ∙ ap (λ (n : ℕ). map (λ (k : ℕ). seen_by s.raster (from_corner (vec_of s.eye) p k)) (range 0 n)) (sym c)
        ∙ sym (ap (map (seen_by s.raster)) (oriented_table (vec_of s.eye) p) ∙ map-map _ _ (range 0 (length p.corners)))

    each : (f : EdgeFunction) → Memᴰ f (map seen (range 0 count)) → FunctionBounded f
    each =
        of_map FunctionBounded seen (range 0 count)
        (of_range (λ (k : ℕ). FunctionBounded (seen k)) 0 count (λ k b. subst (λ (n : ℕ). FunctionBounded (seen n)) (sym (zero-add k)) (bounds k b)))

    many : length (oriented_edges (vec_of s.eye) p) ≡ count
    many = ap length (oriented_table (vec_of s.eye) p) ∙ length_table (from_corner (vec_of s.eye) p) 0 (length p.corners) ∙ c
