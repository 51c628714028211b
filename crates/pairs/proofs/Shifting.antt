-- Taking a segment out of a row: the pair after the gap goes into it, and the gap is then one further.
use mathlib.Core.Path.{◌≡◌, sym, ap, subst, ◌∙◌}
use mathlib.Core.List.{List, [], ◌∷◌, ◌++◌, append_assoc}
use Prim.Native.Nat.{ℕ, suc, ◌+◌, ◌*◌, ◌-◌, ◌≤◌, ◌<◌}
use native.Mathlib.Nat.{add-zero}
use native.Mathlib.Omega.{arith}
use lib.ListN.{length, length-append, length-replicate, replicate-append-replicate}
use Rattle.model.specs.Row.{Segment, numbers_of}
use Rattle.segments.specs.Segments.{row_from, segment_at, written, Holds, Reads}
use Rattle.segments.proofs.Segments.{segment_path, tail_ordered}
use Rattle.segments.proofs.Rows.{zeros, numbers_length}
use Rattle.segments.proofs.Numbers.{shaped, number_after, pair_set}
use Rattle.pairs.specs.Pairs.{Tidy, Gap, Shifted, Shifts, Removes}
use Rattle.pairs.proofs.Moves.{read_segment}
use Rattle.pairs.proofs.Carrying.{tidy_row}

-- one pair further
shifted_from :
    (before : List ℕ) (x y : ℕ) (after : List ℕ) (i : ℕ) → length before ≡ 2 * i → 2 * i + 2 + length after ≡ 256 → i < 127 → Tidy after →
    let row : List ℕ = before ++ x ∷ y ∷ after in
    Shifted (before ++ (after ++ 0 ∷ 0 ∷ [])) (i + 1) (segment_at row (i + 1)).count (written row i (segment_at row (i + 1)))
shifted_from before x y [] i l size h t = absurd (omega arith)
shifted_from before x y (a ∷ []) i l size h t = absurd (omega arith)
shifted_from before x y (a ∷ b ∷ ys) i l size h t =
    let row : List ℕ = before ++ x ∷ y ∷ a ∷ b ∷ ys in
    let q : Segment = record { offset = a; count = b } in
    let next : segment_at row (i + 1) ≡ q =
    segment_path (number_after before (x ∷ y ∷ a ∷ b ∷ ys) (2 * (i + 1)) 2 (omega arith))
    (number_after before (x ∷ y ∷ a ∷ b ∷ ys) (2 * (i + 1) + 1) 3 (omega arith)) in
    record {
      on = record {
        before = before ++ a ∷ b ∷ [];
        x = a;
        y = b;
        after = ys;
        place = length-append before (a ∷ b ∷ []) ∙ omega arith;
        size = omega arith;
        row_is =
            ap (written row i) next
            ∙ pair_set before x y (a ∷ b ∷ ys) i q l
            ∙ sym (append_assoc before (a ∷ b ∷ []) (a ∷ b ∷ ys));
        total_is = sym (append_assoc before (a ∷ b ∷ []) (ys ++ 0 ∷ 0 ∷ []));
        tidy = t.1;
      };
      count_is = ap (λ (s : Segment). s.count) next;
      read = t;
    }

shifted :
    {total : List ℕ} {i : ℕ} {row row' : List ℕ} {offset count : ℕ} → Gap total i row → i < 127 →
    Reads row (i + 1) offset count → row' ≡ written row i (record { offset = offset; count = count }) → Shifted total (i + 1) count row'
shifted {total} {i} {row} {row'} {offset} {count} g h r w =
    let f : Shifted total (i + 1) (segment_at row (i + 1)).count (written row i (segment_at row (i + 1))) =
    rw (g.total_is, g.row_is) (shifted_from g.before g.x g.y g.after i g.place g.size h g.tidy) in
    rw w (subst (λ (s : Segment). Shifted total (i + 1) s.count (written row i s)) (read_segment r) f)

-- at the last pair nothing is left to move
closed :
    {total : List ℕ} {i : ℕ} {row : List ℕ} → Gap total i row → 127 ≤ i → written row 127 (record { offset = 0; count = 0 }) ≡ total
closed {total} {i} {row} g h =
    ap (λ (r : List ℕ). written r 127 z) g.row_is ∙ go g.after g.size ∙ sym g.total_is
  where
    z : Segment
    z = record { offset = 0; count = 0 }

    go :
        (after : List ℕ) → 2 * i + 2 + length after ≡ 256 →
        written (g.before ++ g.x ∷ g.y ∷ after) 127 z ≡ g.before ++ (after ++ 0 ∷ 0 ∷ [])
    go [] e = pair_set g.before g.x g.y [] 127 z (omega (arith, g.place))
    go (a ∷ after) e = absurd (omega arith)

zeros_more : (n : ℕ) → 0 ∷ 0 ∷ zeros n ≡ zeros n ++ 0 ∷ 0 ∷ []
zeros_more n = let e : suc (suc n) ≡ n + 2 = omega arith in ap zeros e ∙ sym (replicate-append-replicate n 2 (ℕ.zero))

-- an unused pair was moved: what follows is unused
unused : {total : List ℕ} {i count : ℕ} {row : List ℕ} → Shifted total i count row → count ≡ 0 → row ≡ total
unused {total} {i} {count} {row} g e =
    let a : List ℕ = g.on.after in
    let y : g.on.y ≡ 0 = sym g.count_is ∙ e in
    let z = g.read.0 y in
    g.on.row_is
    ∙ ap (λ (n : ℕ). g.on.before ++ n ∷ g.on.y ∷ a) z.0
    ∙ ap (λ (n : ℕ). g.on.before ++ 0 ∷ n ∷ a) y
    ∙ ap (λ (xs : List ℕ). g.on.before ++ 0 ∷ 0 ∷ xs) z.1
    ∙ ap (λ (xs : List ℕ). g.on.before ++ xs) (zeros_more (length a))
    ∙ ap (λ (xs : List ℕ). g.on.before ++ (xs ++ 0 ∷ 0 ∷ [])) (sym z.1)
    ∙ sym g.on.total_is

gap_opens :
    {width k : ℕ} {row : List ℕ} {done : List Segment} {s : Segment} {rest : List Segment} →
    Holds width k row done (s ∷ rest) → Gap (row_from (done ++ rest)) k row
unfolding numbers_of
gap_opens {width} {k} {row} {done} {s} {rest} held =
    let n : ℕ = 256 - 2 * (length done + suc (length rest)) in
    let e : 256 - 2 * (length done + length rest) ≡ suc (suc n) = omega arith in
    let after : List ℕ = numbers_of rest ++ zeros n in
    record {
      before = numbers_of done;
      x = s.offset;
      y = s.count;
      after = after;
      place = omega (arith, numbers_length done, held.place);
      size =
          omega (
            arith,
            held.place,
            held.few,
            numbers_length rest,
            length-append (numbers_of rest) (zeros n),
            length-replicate {A = ℕ} n 0,
          );
      row_is = held.row_is ∙ (shaped done (s ∷ rest) held.few).row_is;
      total_is =
          rw e at (shaped done rest (omega arith)).row_is
          ∙ ap (λ (xs : List ℕ). numbers_of done ++ (numbers_of rest ++ xs)) (zeros_more n)
          ∙ ap (λ (xs : List ℕ). numbers_of done ++ xs) (sym (append_assoc (numbers_of rest) (zeros n) (0 ∷ 0 ∷ [])));
      tidy = tidy_row n (tail_ordered held.ordered);
    }

-- The loops: pair k + i or pair i is to be overwritten, and the last pair moved is of this count.
pub shifts_none : (row : List ℕ) (k count : ℕ) → Shifts k 0 row row count
shifts_none row k count = record { shifts = λ total g. rw (add-zero k) g; reads = λ h. absurd (omega arith) }

pub shifts_more :
    {row₀ row row' : List ℕ} {k i last offset count : ℕ} → Shifts k i row₀ row last → k + i < 127 → Reads row (k + i + 1) offset count →
    row' ≡ written row (k + i) (record { offset = offset; count = count }) → Shifts k (i + 1) row₀ row' count
shifts_more {row₀} {row} {row'} {k} {i} {last} {offset} {count} inv h r w =
    let e : k + i + 1 ≡ k + (i + 1) = omega arith in
    let next : (total : List ℕ) → Gap total k row₀ → Shifted total (k + (i + 1)) count row' =
    λ total g. rw e at (shifted (inv.shifts total g) h r w) in
    record { shifts = λ total g. (next total g).on; reads = λ _ total g. next total g }

pub record Removing (row₀ : List ℕ) (k : ℕ) (row : List ℕ) (i : ℕ) : Type 0 where
  pub gaps :
      (width : ℕ) (done : List Segment) (s : Segment) (rest : List Segment) → Holds width k row₀ done (s ∷ rest) →
      Gap (row_from (done ++ rest)) i row

pub remove_starts : (row₀ : List ℕ) (k : ℕ) → Removing row₀ k row₀ (k + 8 * 0)
remove_starts row₀ k =
    let e : k + 8 * 0 ≡ k = omega arith in record { gaps = λ width done s rest held. rw e (gap_opens held) }

module _ {row₀ : List ℕ} {k : ℕ} {row : List ℕ} {i : ℕ} where
  pub remove_ends : {row' : List ℕ} {count : ℕ} → Removing row₀ k row i → Shifts i 8 row row' count → count ≡ 0 → Removes k row₀ row'
  remove_ends inv c e = record { removes = λ width done s rest held. unused (c.reads (omega arith) _ (inv.gaps width done s rest held)) e }

  pub remove_goes : {row' : List ℕ} {count : ℕ} → Removing row₀ k row i → Shifts i 8 row row' count → (m : ℕ) → m ≡ i + 8 → Removing row₀ k row' m
  remove_goes inv c m e = record { gaps = λ width done s rest held. rw e (c.shifts _ (inv.gaps width done s rest held)) }

  -- the rest, up to the row's last pair
  pub remove_closes :
      {row' row'' : List ℕ} {count : ℕ} (j n : ℕ) → Removing row₀ k row i → Shifts j n row row' count → j ≡ i → 127 ≤ j + n →
      row'' ≡ written row' 127 (record { offset = 0; count = 0 }) → Removes k row₀ row''
  remove_closes j n inv c e h w =
      record { removes = λ width done s rest held. w ∙ closed (c.shifts _ (rw e (inv.gaps width done s rest held))) h }
