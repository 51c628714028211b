-- Question 5, how often each node is named.
use mathlib.Core.Path.{◌≡◌, refl, sym, ap, ◌∙◌}
use mathlib.Core.Bool.{Bool, true, false}
use mathlib.Core.List.{List, map}
use Prim.Native.Nat.{ℕ, suc, ◌+◌, ◌*◌, ◌-◌, ◌≤◌, ◌<◌}
use native.Mathlib.Nat.{zero-add, add-zero, sub-zero}
use native.Mathlib.Numerals.{add-one}
use native.Mathlib.Decide.{dec_lt}
use native.Mathlib.Omega.{arith}
use lib.Dec.{eqb}
use lib.ListN.{length, get_or, replicate, length-replicate, get_or-eq_default}
use Rattle.model.specs.Lists.{every, range, add_if, occurrences}
use Rattle.model.specs.Format.{NodeRecord, decode}
use Rattle.model.specs.Questions.{children}
use Rattle.model.proofs.Tables.{zero_at}
use Rattle.model.proofs.Loops.{range_same}
use Rattle.format.specs.declared.layout.Layout.{Layout}
use Rattle.format.specs.Layout.{LaidOut, node_number}
use Rattle.format.proofs.Decoded.{node_count_lem}
use Rattle.children.specs.Children.{each_once, named_once, OneMore, TimesNamed}

-- ---- the counts while the nodes are read
pub record Counted (f : ℕ → NodeRecord) (n : ℕ) (times : List ℕ) (k : ℕ) : Type 0 where
  pub most : k ≤ n
  pub long : length times ≡ 1024
  pub low : (j : ℕ) → get_or times j 0 ≤ 2 * k
  pub total :
      (j : ℕ) →
      j < 1024 →
      get_or times j 0 + occurrences j (children (map f (range k (n - k)))) ≡ occurrences j (children (map f (range 0 n)))

pub none_counted : (f : ℕ → NodeRecord) (n : ℕ) → Counted f n (replicate 1024 0) 0
none_counted f n =
    record {
      most = omega arith;
      long = length-replicate {A = ℕ} 1024 0;
      low = λ j. omega (arith, zero_at 1024 j);
      total = λ j b. rw (zero_at 1024 j, zero-add, sub-zero);
    }

add_if_low : (b : Bool) (n : ℕ) → add_if b n ≤ suc n
add_if_low true n = omega arith
add_if_low false n = omega arith

add_if_moved : (a b : Bool) (x y : ℕ) → add_if b (add_if a x) + y ≡ x + add_if a (add_if b y)
add_if_moved true true x y = omega arith
add_if_moved true false x y = omega arith
add_if_moved false true x y = omega arith
add_if_moved false false x y = refl

low_after :
    {child m : ℕ} {before after : List ℕ} →
    OneMore child before after →
    length before ≡ 1024 →
    ((j : ℕ) → get_or before j 0 ≤ m) →
    (j : ℕ) →
    get_or after j 0 ≤ suc m
low_after {child} {m} {before} {after} o e low j = go (dec_lt j 1024)
  where
    go : Dec (j < 1024) → get_or after j 0 ≤ suc m
    go (yes b) = omega (arith, o.counted j b, add_if_low (eqb child j) (get_or before j 0), low j)
    go (no n) = omega (arith, get_or-eq_default after 0 {n = j} (omega (arith, o.long)))

-- the first node of those left, by its children
module _ (f : ℕ → NodeRecord) {n k : ℕ} (h : k < n) where
  left_over :
      (j : ℕ) →
      occurrences j (children (map f (range k (n - k))))
      ≡ add_if (eqb (f k).positive j) (add_if (eqb (f k).negative j) (occurrences j (children (map f (range (k + 1) (n - (k + 1)))))))
  unfolding children
  left_over j =
      let e : n - k ≡ suc (n - (k + 1)) = omega arith in
      rw (e, add-one)

  pub one_counted :
      {times more all : List ℕ} {m : NodeRecord} →
      Counted f n times k →
      m ≡ f k →
      OneMore m.positive times more →
      OneMore m.negative more all →
      Counted f n all (k + 1)
  one_counted {times} {more} {all} {m} c e p q =
      record {
        most = omega arith;
        long = q.long ∙ p.long ∙ c.long;
        low = λ j. omega (arith, low_after q (p.long ∙ c.long) (low_after p c.long c.low) j);
        total = λ j b.
            rw (q.counted j b, p.counted j b, e) (add_if_moved (eqb (f k).positive j) (eqb (f k).negative j) (get_or times j 0)
            (occurrences j (children (map f (range (k + 1) (n - (k + 1))))))
            ∙ ap (λ (m : ℕ). get_or times j 0 + m) (sym (left_over j))
            ∙ c.total j b);
      }

pub all_counted_lem :
    {bytes : List ℕ} {l : Layout} {times : List ℕ} {k : ℕ} →
    LaidOut bytes l →
    Counted (node_number bytes) l.nodes times k →
    l.nodes ≤ k →
    TimesNamed (decode bytes) times
unfolding children
all_counted_lem {bytes} {l} {times} {k} laid c h =
    let e : l.nodes - k ≡ 0 = omega arith in
    record {
      times_named = λ j b.
          sym (add-zero (get_or times j 0))
          ∙ (rw e at (c.total j b))
          ∙ ap (λ (ns : List NodeRecord). occurrences j (children ns)) (sym laid.nodes);
    }

-- ---- each node but 0 is named once
pub once_named :
    {bytes : List ℕ} {l : Layout} {times : List ℕ} →
    LaidOut bytes l →
    TimesNamed (decode bytes) times →
    each_once times l.nodes ≡ named_once (decode bytes)
once_named {bytes} {l} {times} laid t =
    range_same (λ (j : ℕ). eqb (get_or times j 0) 1) (λ (j : ℕ). eqb (occurrences j (children (decode bytes).nodes)) 1) 1 (l.nodes - 1)
    (λ j a b. ap (λ (m : ℕ). eqb m 1) (t.times_named j (omega (arith, laid.few_nodes))))
    ∙ ap (λ (m : ℕ). every (λ (j : ℕ). eqb (occurrences j (children (decode bytes).nodes)) 1) (range 1 (m - 1))) (sym (node_count_lem laid))
