-- A patch's edge vectors turned by the sign of the eye product: a ray meets the patch exactly where its product with each is above 0.
use mathlib.Core.Path.{◌≡◌, refl, sym, ◌∙◌, ap, ap₂}
use mathlib.Core.Logic.{◌≢◌}
use mathlib.Core.Bool.{Bool, true, false, not, ◌&&◌}
use mathlib.Core.List.{List, [], ◌∷◌, map, Memᴰ}
use Prim.Native.Nat.{zero, suc, ◌*◌}
use native.Mathlib.Omega.{arith}
use lib.Dec.{lt→ltb}
use lib.IntN.{ℤ, pos, negsuc}
use lib.Signed.{lt_z, lt_z_yes}
use Rattle.integer.specs.Magnitude.{Within, sign_of}
use Rattle.integer.proofs.Magnitude.{within_literal}
use Rattle.integer.proofs.Signs.{SameSign, same_sym, same_trans}
use Rattle.model.specs.Lists.{every}
use Rattle.model.specs.Vector.{Vec, times, is_zero}
use Rattle.model.specs.Patch.{Patch, Edge, edges}
use Rattle.model.specs.Ray.{eye_product, edge_vector, edge_number, same_sign, met}
use Rattle.model.proofs.Vectors.{dot_times}
use Rattle.model.proofs.Tests.{same_test}
use Rattle.edges.specs.Edges.{oriented_edges}

-- direction · e is above 0 for each edge vector e
unfoldable pub inside : Vec → List Vec → Bool
inside direction es = every (λ (e : Vec). lt_z (pos 0) (edge_number direction e)) es

pub sign_within : (s : ℤ) → Within 1 (sign_of s)
unfolding sign_of
sign_within (pos zero) = within_literal tt
sign_within (pos (suc n)) = within_literal tt
sign_within (negsuc n) = within_literal tt

-- a number has the sign of s exactly when its product with that sign is above 0
exchanged : {s t : ℤ} → SameSign s t → (n : ℤ) → same_sign s n ≡ same_sign t n
exchanged {s} {t} h n =
    same_test (same_sign s n) (same_sign t n)
    (λ l. (same_trans (same_sym h) (record { agree = lt_z_yes l })).agree.lt)
    (λ l. (same_trans h (record { agree = lt_z_yes l })).agree.lt)

same_sign_test : (s n : ℤ) → same_sign s n ≡ same_sign (sign_of s) n
unfolding sign_of
same_sign_test (pos zero) n = refl
same_sign_test (pos (suc k)) n = exchanged {s = pos (suc k)} {t = pos 1} (record { agree = lt_z_yes (lt→ltb 0 (suc k * 1) (omega arith)) }) n
same_sign_test (negsuc k) n = exchanged {s = negsuc k} {t = negsuc 0} (record { agree = lt_z_yes (lt→ltb 0 (suc k * 1) (omega arith)) }) n

pub every_map :
    {A B : Type 0} (f : A → B) (test : B → Bool) (test' : A → Bool) →
    (xs : List A) →
    ((a : A) → Memᴰ a xs → test (f a) ≡ test' a) →
    every test (map f xs) ≡ every test' xs
every_map f test test' [] h = refl
every_map f test test' (a ∷ xs) h =
    ap₂ ◌&&◌ (h a (Memᴰ.head refl)) (every_map f test test' xs (λ b m. h b (Memᴰ.tail m)))

met_oriented : (eye d : Vec) (p : Patch) → met eye d p ≡ (not (is_zero (eye_product eye p)) && inside d (oriented_edges eye p))
unfolding met inside oriented_edges
met_oriented eye d p =
    ap (not (is_zero (eye_product eye p)) &&◌)
    (sym
    (every_map (λ (e : Edge). times (sign_of (eye_product eye p)) (edge_vector eye e)) _ _ (edges p.corners)
    (λ e m.
    ap (lt_z (pos 0)) (dot_times d (edge_vector eye e) (sign_of (eye_product eye p)))
    ∙ sym (same_sign_test (eye_product eye p) (edge_number d (edge_vector eye e))))))

-- with the eye in the patch's plane it is not met
pub met_none : (eye d : Vec) (p : Patch) → eye_product eye p ≡ pos 0 → met eye d p ≡ false
met_none eye d p e = met_oriented eye d p ∙ ap (λ (z : ℤ). not (is_zero z) && inside d (oriented_edges eye p)) e

not_zero : (z : ℤ) → z ≢ pos 0 → not (is_zero z) ≡ true
not_zero (pos zero) f = absurd (f refl)
not_zero (pos (suc n)) f = refl
not_zero (negsuc n) f = refl

pub met_inside : (eye d : Vec) (p : Patch) → eye_product eye p ≢ pos 0 → met eye d p ≡ inside d (oriented_edges eye p)
met_inside eye d p f =
    met_oriented eye d p ∙ ap (◌&& inside d (oriented_edges eye p)) (not_zero (eye_product eye p) f)
