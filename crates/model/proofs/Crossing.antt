-- The fan of a corner: where a number of the corners is not below 0 next to it on the one side and not above 0 on the other, it changes along some edge between.
use mathlib.Core.Path.{◌≡◌, refl, subst, ◌∙◌}
use mathlib.Core.Logic.{⊎_elim}
use mathlib.Core.List.Memᴰ
use mathlib.Core.List.{List, [], ◌∷◌, ◌++◌, append_assoc, Memᴰ}
use Prim.Native.Nat.{◌≤◌}
use native.Mathlib.Omega.{arith}
use lib.IntN.{ℤ, pos}
use lib.ListN.{length, length-append}
use lib.Signed.{◌<ℤ◌, ◌≤ℤ◌, clash_ℤ}
use Rattle.integer.proofs.Order.{<→≤, <_or-≥}
use Rattle.model.specs.Vector.{Vec}
use Rattle.model.specs.Patch.{Edge, first_edge, edges}
use Rattle.model.proofs.Rounds.{Turned, start, next, turned_to, turned_edge}

-- an edge along which the number goes from 0 or above to 0 or below, with m among its other corners
pub record Crossing (cs : List Vec) (m : Vec) (g : Vec → ℤ) : Type 0 where
  pub edge : Edge
  pub is_edge : Memᴰ edge (edges cs)
  pub is_other : Memᴰ m edge.others
  pub before : pos 0 ≤ℤ g edge.from
  pub after : g edge.to ≤ℤ pos 0

turned_length : {cs ds : List Vec} → Turned cs ds → length ds ≡ length cs
turned_length start = refl
turned_length (next {v = v} {rest = rest} t) = let h = turned_length t in length-append rest (v ∷ []) ∙ omega arith

module _
    {cs : List Vec} {m : Vec} (g : Vec → ℤ)
    (leaving : (e : Edge) → Memᴰ e (edges cs) → e.from ≡ m → pos 0 ≤ℤ g e.to)
    (entering : (e : Edge) → Memᴰ e (edges cs) → e.to ≡ m → g e.from ≤ℤ pos 0)
    (three : 3 ≤ length cs)
  where
    edge_at : {ds : List Vec} → Turned cs ds → Memᴰ (first_edge ds) (edges cs)
    edge_at = turned_edge (omega arith)

    -- the edge from u to w, unless the number is above 0 at w too
    here :
        (rest done : List Vec) (u w : Vec) → Turned cs (u ∷ w ∷ (rest ++ (m ∷ done))) → pos 0 ≤ℤ g u →
        (pos 0 <ℤ g w → Crossing cs m g) → Crossing cs m g
    here rest done u w t h onward =
        ⊎_elim onward
        (λ (k : g w ≤ℤ pos 0).
        record { edge = first_edge (u ∷ w ∷ (rest ++ (m ∷ done))); is_edge = edge_at t; is_other = Memᴰ.append_right rest (Memᴰ.head refl); before = h; after = k })
        (<_or-≥ (pos 0) (g w))

    -- so from corner to corner: at the last, from which an edge leads to m, the number is not above 0
    step : (rest done : List Vec) (u w : Vec) → Turned cs (u ∷ w ∷ (rest ++ (m ∷ done))) → pos 0 ≤ℤ g u → Crossing cs m g
    step [] done u w t h = here [] done u w t h (λ k. clash_ℤ k (entering _ (edge_at (next t)) refl))
    step (x ∷ rest) done u w t h =
        here (x ∷ rest) done u w t h
        (λ k. step rest (done ++ (u ∷ [])) w x (subst (Turned cs) (append_assoc (w ∷ x ∷ rest) (m ∷ done) (u ∷ [])) (next t)) (<→≤ k))

    pub crossing : Memᴰ m cs → Crossing cs m g
    crossing is_corner = let t = turned_to is_corner in go t.0 t.1
      where
        go : (rest : List Vec) → Turned cs (m ∷ rest) → Crossing cs m g
        go [] t = absurd (omega (arith, turned_length t))
        go (u ∷ []) t = absurd (omega (arith, turned_length t))
        go (u ∷ w ∷ rest) t = step rest [] u w (next t) (leaving _ (edge_at t) refl)
