-- Question 6: runs that follow each other.
use mathlib.Core.Path.{◌≡◌, sym, ◌∙◌}
use mathlib.Core.Bool.{false, ◌&&◌}
use mathlib.Core.List.{map}
use Prim.Native.Nat.{ℕ, suc, ◌+◌, ◌*◌, ◌-◌, ◌≤◌, ◌<◌}
use native.Mathlib.Nat.{sub-zero}
use native.Mathlib.Numerals.{add-one}
use native.Mathlib.Omega.{arith}
use lib.Dec.{eqb}
use borrow.Author.Tests.{eq-eqb, ne_eqb}
use Rattle.model.specs.Lists.{range}
use Rattle.model.specs.Format.{Run}
use Rattle.model.specs.Questions.{runs_follow}

-- ---- the loop
module _ (run : ℕ → Run) (n end : ℕ) where
  -- the first k runs follow, and the next should begin at a place
  pub record FollowTo (start k : ℕ) : Type 0 where
    pub most : k ≤ n
    pub low : start ≤ 65536 * k
    pub rest : runs_follow 0 end (map run (range 0 n)) ≡ runs_follow start end (map run (range k (n - k)))

  pub none_follow : FollowTo 0 0
  none_follow = record { most = omega arith; low = omega arith; rest = rw (sub-zero n) }

  module _ {start k : ℕ} (f : FollowTo start k) where
    next_run :
        k < n →
        runs_follow 0 end (map run (range 0 n))
        ≡ (eqb (run k).first start && runs_follow (start + (run k).count) end (map run (range (k + 1) (n - (k + 1)))))
    unfolding runs_follow
    next_run h =
        let e : n - k ≡ suc (n - (k + 1)) = omega arith in
        f.rest ∙ rw (e, add-one)

    pub breaks : {first : ℕ} → k < n → first ≡ (run k).first → (first ≡ start → ⊥) → false ≡ runs_follow 0 end (map run (range 0 n))
    breaks h e m = sym (next_run h ∙ rw (← e, ne_eqb _ start m))

    pub one_follows :
        {first count : ℕ} →
        k < n →
        first ≡ (run k).first →
        first ≡ start →
        count ≡ (run k).count →
        count < 65536 →
        FollowTo (start + count) (k + 1)
    one_follows {first} {count} h e m c b =
        record {
          most = omega arith;
          low = omega (arith, f.low);
          rest = next_run h ∙ rw (← e, eq-eqb first start m, ← c);
        }

    pub all_follow : n ≤ k → eqb start end ≡ runs_follow 0 end (map run (range 0 n))
    unfolding runs_follow
    all_follow h =
        let e : n - k ≡ 0 = omega arith in
        sym (f.rest ∙ rw e)
