-- A patch's corners read round from any of them, and the edges met on the way.
use mathlib.Core.Path.{◌≡◌, refl, sym, ◌∙◌, ap, subst}
use mathlib.Core.Logic.{◌⊎◌, inl, inr, ⊎_elim}
use mathlib.Core.List.Memᴰ
use mathlib.Core.List.{List, [], ◌∷◌, ◌++◌, append-nil, append_assoc, Memᴰ}
use Prim.Native.Nat.{ℕ, zero, suc, ◌+◌, ◌≤◌, ◌<◌}
use native.Mathlib.Nat.{add-zero, zero-add}
use native.Mathlib.Decide.{ℕ_discrete}
use native.Mathlib.Omega.{arith}
use lib.ListN.{length, get_or, take, drop, take-append-drop, length-append, length-take, length-drop}
use lib.Seq.{take-suc, drop-cons, take-length, drop-length}
use Rattle.model.specs.Lists.{range}
use Rattle.model.specs.Vector.{Vec, origin}
use Rattle.model.specs.Patch.{Edge, round, first_edge, edges}

-- cs read round, one corner further at each step
pub data Turned (cs : List Vec) : List Vec → Type 0 where
  start : Turned cs cs
  next : {v : Vec} {rest : List Vec} → Turned cs (v ∷ rest) → Turned cs (rest ++ (v ∷ []))

-- any corner may come first
pub turned_to : {m : Vec} {cs : List Vec} → Memᴰ m cs → (rest : List Vec) × Turned cs (m ∷ rest)
turned_to {m} {cs} h = go h [] (subst (Turned cs) (sym (append-nil cs)) start)
  where
    go : {xs : List Vec} → Memᴰ m xs → (ys : List Vec) → Turned cs (xs ++ ys) → (rest : List Vec) × Turned cs (m ∷ rest)
    go (Memᴰ.head {xs = xs} e) ys t = (xs ++ ys, subst (λ (c : Vec). Turned cs (c ∷ (xs ++ ys))) (sym e) t)
    go (Memᴰ.tail {x = x} {xs = xs} h) ys t = go h (ys ++ (x ∷ [])) (subst (Turned cs) (append_assoc xs ys (x ∷ [])) (next t))

-- ---- by places
from_place : (cs : List Vec) (k : ℕ) → k < length cs → round cs k ≡ get_or cs k origin ∷ (drop (suc k) cs ++ take k cs)
from_place cs k h = ap (λ (l : List Vec). l ++ take k cs) (drop-cons cs k origin h)

round_next : (cs : List Vec) (k : ℕ) → k < length cs → {v : Vec} {rest : List Vec} → v ∷ rest ≡ round cs k → rest ++ (v ∷ []) ≡ round cs (suc k)
round_next cs k h {v} {rest} e =
    let f : v ∷ rest ≡ get_or cs k origin ∷ (drop (suc k) cs ++ take k cs) = e ∙ from_place cs k h in
    let ev : v ≡ get_or cs k origin = cc in
    let er : rest ≡ drop (suc k) cs ++ take k cs = cc in
    rw (ev, er, take-suc cs k origin) (append_assoc (drop (suc k) cs) (take k cs) (get_or cs k origin ∷ []))

round_whole : (cs : List Vec) → round cs (length cs) ≡ round cs 0
round_whole cs = rw (drop-length cs, take-length cs) (sym (append-nil cs))

place : {cs ds : List Vec} → 0 < length cs → Turned cs ds → (k : ℕ) × (k < length cs) × (ds ≡ round cs k)
place {cs} h start = (0, h, sym (append-nil cs))
place {cs} h (next {v = v} {rest = rest} t) = step (place h t)
  where
    step : (k : ℕ) × (k < length cs) × (v ∷ rest ≡ round cs k) → (k : ℕ) × (k < length cs) × (rest ++ (v ∷ []) ≡ round cs k)
    step (k, l, e) = go (ℕ_discrete (suc k) (length cs))
      where
        go : Dec (suc k ≡ length cs) → (k : ℕ) × (k < length cs) × (rest ++ (v ∷ []) ≡ round cs k)
        go (yes f) = (0, h, round_next cs k l e ∙ ap (round cs) f ∙ round_whole cs)
        go (no f) = (suc k, omega arith, round_next cs k l e)

range_mem : (first count i : ℕ) → i < count → Memᴰ (first + i) (range first count)
range_mem first zero i h = absurd (omega arith)
range_mem first (suc count) zero h = Memᴰ.head (add-zero first)
range_mem first (suc count) (suc i) h = Memᴰ.tail (Memᴰ.cast (omega arith) (range_mem (suc first) count i (omega arith)))

of_range : (first count : ℕ) {k : ℕ} → Memᴰ k (range first count) → k < first + count
of_range first zero m = absurd (Memᴰ.not-nil m)
of_range first (suc count) {k} m =
    ⊎_elim
    (λ (e : k ≡ first). omega arith)
    (λ (m' : Memᴰ k (range (suc first) count)). omega (arith, of_range (suc first) count m'))
    (Memᴰ.cases_cons m)

-- ---- the edges
pub turned_edge : {cs ds : List Vec} → 0 < length cs → Turned cs ds → Memᴰ (first_edge ds) (edges cs)
unfolding edges
turned_edge {cs} h t =
    let p = place h t in
    Memᴰ.cast (ap first_edge p.2) (Memᴰ.map (λ (k : ℕ). first_edge (round cs k)) (Memᴰ.cast (sym (zero-add p.0)) (range_mem 0 (length cs) p.0 p.1)))

first_ends : (v : Vec) (rest : List Vec) → Memᴰ (first_edge (v ∷ rest)).from (v ∷ rest) × Memᴰ (first_edge (v ∷ rest)).to (v ∷ rest)
first_ends v [] = (Memᴰ.head refl, Memᴰ.head refl)
first_ends v (w ∷ rest) = (Memᴰ.head refl, Memᴰ.tail (Memᴰ.head refl))

round_mem : (cs : List Vec) (k : ℕ) {c : Vec} → Memᴰ c (round cs k) → Memᴰ c cs
round_mem cs k {c} h =
    subst (Memᴰ c) (take-append-drop k cs)
    (⊎_elim (Memᴰ.append_right (take k cs)) (Memᴰ.append_left (drop k cs)) (Memᴰ.append_cases (drop k cs) h))

-- an edge by the place of the corner that it starts from
edge_place : {cs : List Vec} {e : Edge} → Memᴰ e (edges cs) → (k : ℕ) × (k < length cs) × (first_edge (round cs k) ≡ e)
unfolding edges
edge_place {cs} {e} h = go (Memᴰ.of_map (λ (k : ℕ). first_edge (round cs k)) (range 0 (length cs)) h)
  where
    go : (k : ℕ) × Memᴰ k (range 0 (length cs)) × (first_edge (round cs k) ≡ e) → (k : ℕ) × (k < length cs) × (first_edge (round cs k) ≡ e)
    go (k, m, f) = (k, omega (arith, of_range 0 (length cs) m), f)

pub edge_ends : {cs : List Vec} {e : Edge} → Memᴰ e (edges cs) → Memᴰ e.from cs × Memᴰ e.to cs
edge_ends {cs} {e} h =
    let p = edge_place h in
    let k = p.0 in
    let r : List Vec = drop (suc k) cs ++ take k cs in
    let both = first_ends (get_or cs k origin) r in
    let e' : e ≡ first_edge (get_or cs k origin ∷ r) = sym p.2 ∙ ap first_edge (from_place cs k p.1) in (
      round_mem cs k (Memᴰ.cast (ap (λ (e : Edge). e.from) e') (subst (Memᴰ _) (sym (from_place cs k p.1)) both.0)),
      round_mem cs k (Memᴰ.cast (ap (λ (e : Edge). e.to) e') (subst (Memᴰ _) (sym (from_place cs k p.1)) both.1)),
    )

third_other : (cs : List Vec) → 3 ≤ length cs → (q : Vec) × Memᴰ q (first_edge cs).others × Memᴰ q cs
third_other [] h = absurd (omega arith)
third_other (u ∷ []) h = absurd (omega arith)
third_other (u ∷ v ∷ []) h = absurd (omega arith)
third_other (u ∷ v ∷ w ∷ cs) h = (w, Memᴰ.head refl, Memᴰ.tail (Memᴰ.tail (Memᴰ.head refl)))

round_length : (cs : List Vec) (k : ℕ) → k < length cs → length (round cs k) ≡ length cs
round_length cs k h = length-append (drop k cs) (take k cs) ∙ simp (length-take, length-drop) (omega arith)

-- every edge of three corners or more has another corner
pub edge_other :
    {cs : List Vec} {e : Edge} → 3 ≤ length cs → Memᴰ e (edges cs) → (q : Vec) × Memᴰ q e.others × Memᴰ q cs
edge_other {cs} three h =
    let p = edge_place h in
    let t = third_other (round cs p.0) (rw (round_length cs p.0 p.1) three) in
    (t.0, subst (λ (x : Edge). Memᴰ t.0 x.others) p.2 t.1, round_mem cs p.0 t.2)

first_corners : (cs : List Vec) {c : Vec} → Memᴰ c cs → (c ≡ (first_edge cs).from) ⊎ ((c ≡ (first_edge cs).to) ⊎ Memᴰ c (first_edge cs).others)
first_corners [] m = absurd (Memᴰ.not-nil m)
first_corners (u ∷ []) (Memᴰ.head e) = inl e
first_corners (u ∷ []) (Memᴰ.tail m) = absurd (Memᴰ.not-nil m)
first_corners (u ∷ v ∷ cs) (Memᴰ.head e) = inl e
first_corners (u ∷ v ∷ cs) (Memᴰ.tail (Memᴰ.head e)) = inr (inl e)
first_corners (u ∷ v ∷ cs) (Memᴰ.tail (Memᴰ.tail m)) = inr (inr m)

-- each corner is an end of the edge or one of its others
pub edge_corner :
    {cs : List Vec} {e : Edge} → Memᴰ e (edges cs) → {c : Vec} → Memᴰ c cs →
    (c ≡ e.from) ⊎ ((c ≡ e.to) ⊎ Memᴰ c e.others)
edge_corner {cs} h {c} m =
    let p = edge_place h in
    subst (λ (x : Edge). (c ≡ x.from) ⊎ ((c ≡ x.to) ⊎ Memᴰ c x.others)) p.2 (first_corners (round cs p.0) (turned p.0))
  where
    turned : (k : ℕ) → Memᴰ c (round cs k)
    turned k =
        ⊎_elim (Memᴰ.append_right (drop k cs)) (Memᴰ.append_left (take k cs))
        (Memᴰ.append_cases (take k cs) (subst (Memᴰ c) (sym (take-append-drop k cs)) m))
