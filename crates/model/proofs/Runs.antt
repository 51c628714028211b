-- Runs that follow each other: each begins where the one before it ended, and the last ends where the table ends.
use mathlib.Core.Path.{◌≡◌, subst}
use mathlib.Core.List.Memᴰ
use mathlib.Core.List.{List, [], ◌∷◌, Memᴰ}
use Prim.Native.Nat.{ℕ, ◌+◌, ◌≤◌}
use native.Mathlib.Omega.{arith}
use lib.Dec.{T, eqb, eqb→eq}
use lib.ListN.{take, drop, take-append-drop}
use Rattle.model.specs.Format.{Run, inRun}
use Rattle.model.specs.Questions.{runs_follow}
use Rattle.model.proofs.Tests.{both, of_cons}

-- what the part of a list that a run names holds is in the list
pub part_member : {A : Type 0} {a : A} (r : Run) (l : List A) → Memᴰ a (inRun r l) → Memᴰ a l
part_member {a} r l m =
    subst (Memᴰ a) (take-append-drop r.first l)
    (Memᴰ.append_right (take r.first l)
    (subst (Memᴰ a) (take-append-drop r.count (drop r.first l))
    (Memᴰ.append_left (drop r.count (drop r.first l)) m)))

abbrev pub run_end : Run → ℕ
run_end r = r.first + r.count

-- a run that lies between two places
pub record Between (start end : ℕ) (r : Run) : Type 0 where
  pub begins : start ≤ r.first
  pub ends : run_end r ≤ end

module _ (end : ℕ) where
  -- the first run begins at the start, and the others follow its end
  pub first_follows :
      (start : ℕ) (r : Run) (rs : List Run) → T (runs_follow start end (r ∷ rs)) →
      (r.first ≡ start) × T (runs_follow (start + r.count) end rs)
  unfolding runs_follow
  first_follows start r rs t =
      let u = (both (eqb r.first start) (runs_follow (start + r.count) end rs)).0 t in
      (eqb→eq r.first start u.0, u.1)

  starts_before : (start : ℕ) (rs : List Run) → T (runs_follow start end rs) → start ≤ end
  unfolding runs_follow
  starts_before start [] t = omega (arith, eqb→eq)
  starts_before start (r ∷ rs) t = omega (arith, starts_before (start + r.count) rs (first_follows start r rs t).1)

  pub runs_between : (start : ℕ) (rs : List Run) → T (runs_follow start end rs) → (r : Run) → Memᴰ r rs → Between start end r
  runs_between start [] t = λ r m. absurd (Memᴰ.not-nil m)
  runs_between start (r ∷ rs) t =
      let u = first_follows start r rs t in
      let later = runs_between (start + r.count) rs u.1 in
      of_cons (Between start end)
      (record { begins = omega (arith, u.0); ends = omega (arith, u.0, starts_before (start + r.count) rs u.1) })
      (λ q m. record { begins = omega (arith, (later q m).begins); ends = (later q m).ends })
