-- Putting a segment into a row: the pair in hand goes into pair i, and the one that stood there comes into hand.
use mathlib.Core.Path.{◌≡◌, refl, sym, ap, subst⁻¹, ◌∙◌}
use mathlib.Core.List.{List, [], ◌∷◌, ◌++◌, append_assoc}
use Prim.Native.Nat.{ℕ, zero, suc, ◌+◌, ◌*◌, ◌-◌, ◌≤◌, ◌<◌}
use native.Mathlib.Nat.{add-zero}
use native.Mathlib.Omega.{arith}
use lib.ListN.{length, take, length-append, length-replicate}
use lib.Seq.{take-append-add}
use Rattle.model.specs.Row.{Segment, numbers_of}
use Rattle.segments.specs.Segments.{Ordered, none, more, row_from, segment_at, written, Holds, Reads}
use Rattle.segments.proofs.Segments.{segment_path}
use Rattle.segments.proofs.Rows.{zeros, take_zeros, numbers_length}
use Rattle.segments.proofs.Numbers.{shaped, number_after, pair_set}
use Rattle.pairs.specs.Pairs.{Tidy, Carry, Carried, Carries, Inserts}
use Rattle.pairs.proofs.Moves.{read_segment}

tidy_zeros : (n : ℕ) → Tidy (zeros n)
tidy_zeros zero = tt
tidy_zeros (suc zero) = tt
tidy_zeros (suc (suc n)) = ((λ e. (refl, ap zeros (sym (length-replicate {A = ℕ} n 0)))), tidy_zeros n)

pub tidy_row : {width low : ℕ} {ss : List Segment} (n : ℕ) → Ordered width low ss → Tidy (numbers_of ss ++ zeros n)
unfolding numbers_of
tidy_row n none = tidy_zeros n
tidy_row n (more low s p o) = ((λ e. absurd (omega (arith, p.filled))), tidy_row n o)

-- one pair further
carried_from :
    (before after : List ℕ) (p : Segment) (i : ℕ) → length before ≡ 2 * i → 2 * i + length after ≡ 256 → i < 128 → Tidy after →
    Carried (before ++ take (length after) (p.offset ∷ p.count ∷ after)) (i + 1) (segment_at (before ++ after) i) (written (before ++ after) i p)
carried_from before [] p i l size h t = absurd (omega arith)
carried_from before (x ∷ []) p i l size h t = absurd (omega arith)
carried_from before (x ∷ y ∷ ys) p i l size h t =
    let row : List ℕ = before ++ x ∷ y ∷ ys in
    let total : List ℕ = before ++ p.offset ∷ p.count ∷ take (length ys) (x ∷ y ∷ ys) in
    let q : Segment = record { offset = x; count = y } in
    let here : segment_at row i ≡ q =
    segment_path (number_after before (x ∷ y ∷ ys) (2 * i) 0 (omega arith)) (number_after before (x ∷ y ∷ ys) (2 * i + 1) 1 (omega arith)) in
    subst⁻¹ (λ (s : Segment). Carried total (i + 1) s (written row i p)) here
    (record {
      on = record {
        before = before ++ p.offset ∷ p.count ∷ [];
        after = ys;
        place = length-append before (p.offset ∷ p.count ∷ []) ∙ omega arith;
        size = omega arith;
        row_is = pair_set before x y ys i p l ∙ sym (append_assoc before (p.offset ∷ p.count ∷ []) ys);
        total_is = sym (append_assoc before (p.offset ∷ p.count ∷ []) (take (length ys) (x ∷ y ∷ ys)));
        tidy = t.1;
      };
      read = t;
    })

carried :
    {total : List ℕ} {i : ℕ} {p : Segment} {row row' : List ℕ} {offset count : ℕ} → Carry total i p row → i < 128 →
    Reads row i offset count → row' ≡ written row i p → Carried total (i + 1) (record { offset = offset; count = count }) row'
carried {total} {i} {p} {row} {row'} g h r w =
    rw (w, ← read_segment r, g.total_is, g.row_is) (carried_from g.before g.after p i g.place g.size h g.tidy)

-- behind the last pair nothing is left in hand
settled : {total : List ℕ} {i : ℕ} {p : Segment} {row : List ℕ} → Carry total i p row → 128 ≤ i → row ≡ total
settled {total} {i} {p} g h = g.row_is ∙ go g.after g.size ∙ sym g.total_is
  where
    go : (after : List ℕ) → 2 * i + length after ≡ 256 → g.before ++ after ≡ g.before ++ take (length after) (p.offset ∷ p.count ∷ after)
    go [] e = refl
    go (x ∷ xs) e = absurd (omega arith)

-- an unused pair in hand: what follows is unused
unused : {total : List ℕ} {i : ℕ} {p : Segment} {row : List ℕ} → Carried total i p row → p.count ≡ 0 → row ≡ total
unused {total} {i} {p} {row} g e =
    let a : List ℕ = g.on.after in
    let z = g.read.0 e in
    let m : ℕ = length a in
    let t : take m (p.offset ∷ p.count ∷ a) ≡ a =
    ap (λ (n : ℕ). take m (n ∷ p.count ∷ a)) z.0
    ∙ ap (λ (n : ℕ). take m (0 ∷ n ∷ a)) e
    ∙ ap (λ (xs : List ℕ). take m (0 ∷ 0 ∷ xs)) z.1
    ∙ take_zeros m (suc (suc m)) (omega arith)
    ∙ sym z.1 in
    g.on.row_is ∙ ap (λ (xs : List ℕ). g.on.before ++ xs) (sym t) ∙ sym g.on.total_is

carry_starts :
    {width k : ℕ} {row : List ℕ} {done rest : List Segment} (s : Segment) → Holds width k row done rest →
    length done + length rest < 128 → Carry (row_from (done ++ s ∷ rest)) k s row
unfolding numbers_of
carry_starts {width} {k} {row} {done} {rest} s held room =
    let n : ℕ = 254 - 2 * (length done + length rest) in
    let e : 256 - 2 * (length done + length rest) ≡ suc (suc n) = omega arith in
    let f : 256 - 2 * (length done + suc (length rest)) ≡ n = omega arith in
    let after : List ℕ = numbers_of rest ++ zeros (suc (suc n)) in
    let l : length after ≡ suc (suc (length (numbers_of rest) + n)) =
    length-append (numbers_of rest) (zeros (suc (suc n))) ∙ omega (arith, length-replicate {A = ℕ} (suc (suc n)) 0) in
    record {
      before = numbers_of done;
      after = after;
      place = omega (arith, numbers_length done, held.place);
      size = omega (arith, numbers_length rest, held.place);
      row_is = held.row_is ∙ rw e at (shaped done rest held.few).row_is;
      total_is =
          rw f at (shaped done (s ∷ rest) (omega arith)).row_is
          ∙ ap (λ (xs : List ℕ). numbers_of done ++ s.offset ∷ s.count ∷ xs)
          (sym (take-append-add (numbers_of rest) (zeros (suc (suc n))) n ∙ rw (take_zeros n (suc (suc n)) (omega arith))))
          ∙ ap (λ (m : ℕ). numbers_of done ++ take m (s.offset ∷ s.count ∷ after)) (sym l);
      tidy = tidy_row (suc (suc n)) held.ordered;
    }

-- The loops: the pair p is in hand, for pair k + i or pair i.
pub carries_none : (row : List ℕ) (k : ℕ) (s : Segment) → Carries k 0 s row row s
carries_none row k s = record { carries = λ total g. rw (add-zero k) g; reads = λ h. absurd (omega arith) }

pub carries_more :
    {row₀ row row' : List ℕ} {k i offset count : ℕ} {s p : Segment} → Carries k i s row₀ row p → k + i < 128 →
    Reads row (k + i) offset count → row' ≡ written row (k + i) p → Carries k (i + 1) s row₀ row' (record { offset = offset; count = count })
carries_more {row₀} {row} {row'} {k} {i} {offset} {count} {s} inv h r w =
    let q : Segment = record { offset = offset; count = count } in
    let e : k + i + 1 ≡ k + (i + 1) = omega arith in
    let next : (total : List ℕ) → Carry total k s row₀ → Carried total (k + (i + 1)) q row' =
    λ total g. rw e at (carried (inv.carries total g) h r w) in
    record { carries = λ total g. (next total g).on; reads = λ _ total g. next total g }

pub record Inserting (row₀ : List ℕ) (k : ℕ) (s : Segment) (row : List ℕ) (p : Segment) (i : ℕ) : Type 0 where
  pub carries :
      (width : ℕ) (done rest : List Segment) → Holds width k row₀ done rest → length done + length rest < 128 →
      Carry (row_from (done ++ s ∷ rest)) i p row

pub insert_starts : (row₀ : List ℕ) (k : ℕ) (s : Segment) → Inserting row₀ k s row₀ s (k + 8 * 0)
insert_starts row₀ k s =
    let e : k + 8 * 0 ≡ k = omega arith in record { carries = λ width done rest held room. rw e (carry_starts s held room) }

module _ {row₀ : List ℕ} {k : ℕ} {s : Segment} {row : List ℕ} {p : Segment} {i : ℕ} where
  pub insert_ends : {row' : List ℕ} {q : Segment} → Inserting row₀ k s row p i → Carries i 8 p row row' q → q.count ≡ 0 → Inserts k s row₀ row'
  insert_ends inv c e =
      record { inserts = λ width done rest held room. unused (c.reads (omega arith) _ (inv.carries width done rest held room)) e }

  pub insert_goes : {row' : List ℕ} {q : Segment} → Inserting row₀ k s row p i → Carries i 8 p row row' q → (m : ℕ) → m ≡ i + 8 → Inserting row₀ k s row' q m
  insert_goes inv c m e = record { carries = λ width done rest held room. rw e (c.carries _ (inv.carries width done rest held room)) }

  -- the rest, up to the row's last pair; a place beyond the row has none
  pub insert_settles :
      {row' : List ℕ} {q : Segment} (j n : ℕ) → Inserting row₀ k s row p i → Carries j n p row row' q → (k < 128 → j ≡ i) → 128 ≤ j + n →
      Inserts k s row₀ row'
  insert_settles j n inv c e h =
      record {
        inserts = λ width done rest held room.
            settled (c.carries _ (rw (e (omega (arith, held.place))) (inv.carries width done rest held room))) h;
      }
