-- Runs that follow each other are together one range.
use mathlib.Core.Path.{◌≡◌, refl}
use mathlib.Core.Bool.{Bool}
use mathlib.Core.List.{List, [], ◌∷◌, map}
use Prim.Native.Nat.{ℕ, ◌+◌}
use native.Mathlib.Omega.{arith}
use lib.Dec.{T, eqb→eq}
use Rattle.model.specs.Lists.{range, tally}
use Rattle.model.specs.Format.{Run}
use Rattle.model.specs.Questions.{runs_follow}
use Rattle.model.proofs.Ranges.{range_append}
use Rattle.model.proofs.Runs.{first_follows}
use Rattle.model.proofs.Totals.{total, tally_append}

one_more :
    (test : ℕ → Bool) (first start count n sum : ℕ) →
    first ≡ start →
    sum ≡ tally test (range (start + count) n) →
    tally test (range first count) + sum ≡ tally test (range start (count + n))
one_more test first start count n sum e h = rw (range_append, tally_append, e, h)

-- the runs of some records, from `start` to `end`
module _ {A : Type 0} (run_of : A → Run) (end : ℕ) where
  pub record Follows (start : ℕ) (l : List A) : Type 0 where
    pub count : ℕ
    pub sum : start + count ≡ end
    pub together : (test : ℕ → Bool) → total (λ (a : A). tally test (range (run_of a).first (run_of a).count)) l ≡ tally test (range start count)

  pub follows : (start : ℕ) (l : List A) → T (runs_follow start end (map run_of l)) → Follows start l
  unfolding runs_follow total
  follows start [] t = record { count = 0; sum = omega (arith, eqb→eq); together = λ test. refl }
  follows start (a ∷ l) t =
      let r : Run = run_of a in
      let u = first_follows end start r (map run_of l) t in
      let rest : Follows (start + r.count) l = follows (start + r.count) l u.1 in
      let k : start + r.count + rest.count ≡ end = rest.sum in
      record {
        count = r.count + rest.count;
        sum = omega arith;
        together = λ test. one_more test r.first start r.count rest.count _ u.0 (rest.together test);
      }
