-- The functions of a table, one after the other: one that has a slope is kept, and one that has none leaves rows out.
use mathlib.Core.Path.{◌≡◌, refl, sym, ap, ◌∙◌}
use mathlib.Core.Logic.{inl, inr}
use mathlib.Core.Bool.{Bool, true, false, ◌&&◌, and_assoc, and-true}
use mathlib.Core.List.{List, [], ◌∷◌, ◌++◌, map, map-append}
use Prim.Native.Nat.{ℕ, ◌+◌, ◌≤◌, ◌<◌}
use native.Mathlib.Nat.{zero-add}
use native.Mathlib.Omega.{arith}
use lib.IntN.{ℤ, pos}
use lib.ListN.{length, take, set, length-set}
use lib.Signed.{lt_z}
use Rattle.std.proofs.lemmas.List.{take_more_set}
use Rattle.std.proofs.lemmas.List.Elements.{All-nil, All-push}
use Rattle.integer.proofs.Identity.{ring, reify}
use Rattle.model.specs.Lists.{every, range}
use Rattle.model.proofs.Ranges.{range_append}
use Rattle.geometry.specs.declared.EdgeFunction.{EdgeFunction}
use Rattle.geometry.specs.Raster.{FunctionBounded}
use Rattle.spans.specs.declared.Span.{Span}
use Rattle.spans.specs.Span.{covers, Shaped, number_at, Clipped}
use Rattle.spans.specs.Row.{FunctionRun, number_in, all_above}
use Rattle.slopes.specs.declared.Sloped.{Sloped}
use Rattle.slopes.specs.Sloped.{OneAsked, KeepsOne}

-- a function is above 0 at column i of row j
abbrev above : EdgeFunction → ℕ → ℕ → Bool
above f i j = lt_z (pos 0) (number_in f i j)

-- ---- one function more

every_last : {A : Type 0} (test : A → Bool) (xs : List A) (a : A) → every test (xs ++ a ∷ []) ≡ (every test xs && test a)
every_last test [] a = and-true (test a)
every_last test (b ∷ xs) a = ap (λ (t : Bool). test b && t) (every_last test xs a) ∙ sym (and_assoc (test b) (every test xs) (test a))

above_last : (fs : List EdgeFunction) (f : EdgeFunction) (i j : ℕ) → all_above (fs ++ f ∷ []) i j ≡ (all_above fs i j && above f i j)
unfolding all_above
above_last fs f i j = every_last (λ (g : EdgeFunction). above g i j) fs f

all_last : (f : ℕ → EdgeFunction) (k i j : ℕ) → all_above (map f (range 0 (k + 1))) i j ≡ (all_above (map f (range 0 k)) i j && above (f k) i j)
all_last f k i j =
    ap (λ (fs : List EdgeFunction). all_above fs i j)
    (ap (map f) (range_append 0 k 1) ∙ map-append f (range 0 k) (range (0 + k) 1) ∙ ap (λ (n : ℕ). map f (range 0 k) ++ f n ∷ []) (zero-add k))
    ∙ above_last (map f (range 0 k)) (f k) i j

-- a level function is the same in all columns
level_number : (s : ℤ) (i : ℕ) → number_at (pos 0) s i ≡ s
level_number s i = ring (s ∷ pos i ∷ []) (search reify depth 40 fits 20000, tt)

-- ---- while the functions are gone through

-- The first i of some functions are gone through: in the rows of the reach these are above 0 just where, in the rows left, those kept are. They are the first n of a table,
-- which has room for all.
pub record KeptUpTo (f : ℕ → EdgeFunction) (count : ℕ) (reach : Span) (kept : List EdgeFunction) (left : Span) (n i : ℕ) : Type 0 where
  pub most : i ≤ count
  pub fewer : n ≤ i
  pub room : count ≤ length kept
  pub run : FunctionRun (take n kept)
  pub shaped : Shaped reach.end left
  pub same : (j c : ℕ) → (covers left j && all_above (take n kept) c j) ≡ (covers reach j && all_above (map f (range 0 i)) c j)

-- what keeping asks: there are at most eight functions
pub record KeepingAsked (count : ℕ) (reach : Span) : Type 0 where
  pub eight : count ≤ 8
  pub shaped : Shaped 1024 reach

module _ {f : ℕ → EdgeFunction} {count : ℕ} {reach : Span} (asked : KeepingAsked count reach) where
  pub keeping_starts : {kept : List EdgeFunction} → 8 ≤ length kept → KeptUpTo f count reach kept reach 0 0
  keeping_starts room =
      record {
        most = omega arith;
        fewer = omega arith;
        room = omega (arith, asked.eight);
        run = All-nil FunctionBounded;
        shaped = record { written = asked.shaped.written; limited = omega arith };
        same = λ j c. refl;
      }

  module _ {kept : List EdgeFunction} {left : Span} {n i : ℕ} (inv : KeptUpTo f count reach kept left n i) (h : i < count) (bounded : FunctionBounded (f i)) where
    -- a level one leaves rows out
    keeping_level : {r : Span} → (f i).slope ≡ pos 0 → Clipped (f i).drop (f i).start left r → KeptUpTo f count reach kept r n (i + 1)
    keeping_level {r} e clipped =
        record {
          most = omega arith;
          fewer = omega (arith, inv.fewer);
          room = inv.room;
          run = inv.run;
          shaped = record { written = clipped.shaped.written; limited = omega (arith, clipped.shaped.limited, inv.shaped.limited) };
          same = λ j c. step j c;
        }
      where
        tells : (j c : ℕ) → lt_z (pos 0) (number_at (f i).drop (f i).start j) ≡ above (f i) c j
        tells j c = ap (lt_z (pos 0)) (sym (ap (λ (z : ℤ). number_at z (number_at (f i).drop (f i).start j) c) e ∙ level_number (number_at (f i).drop (f i).start j) c))

        swap : (a v b : Bool) → ((a && v) && b) ≡ ((a && b) && v)
        swap true true true = refl
        swap true true false = refl
        swap true false true = refl
        swap true false false = refl
        swap false v b = refl

        step : (j c : ℕ) → (covers r j && all_above (take n kept) c j) ≡ (covers reach j && all_above (map f (range 0 (i + 1))) c j)
        step j c =
            ap (λ (t : Bool). t && all_above (take n kept) c j) (clipped.exact j ∙ ap (λ (v : Bool). covers left j && v) (tells j c))
            ∙ swap (covers left j) (above (f i) c j) (all_above (take n kept) c j)
            ∙ ap (λ (t : Bool). t && above (f i) c j) (inv.same j c)
            ∙ and_assoc (covers reach j) (all_above (map f (range 0 i)) c j) (above (f i) c j)
            ∙ ap (λ (t : Bool). covers reach j && t) (sym (all_last f i c j))

    -- one that has a slope is kept
    keeping_sloped : KeptUpTo f count reach (set kept n (f i)) left (n + 1) (i + 1)
    keeping_sloped =
        record {
          most = omega arith;
          fewer = omega (arith, inv.fewer);
          room = omega (arith, inv.room, length-set kept n (f i));
          run = rw behind (All-push FunctionBounded (take n kept) (f i) inv.run bounded);
          shaped = inv.shaped;
          same = λ j c. step j c;
        }
      where
        behind : take (n + 1) (set kept n (f i)) ≡ take n kept ++ f i ∷ []
        behind = take_more_set kept n (f i) (omega (arith, inv.fewer, inv.room))

        step : (j c : ℕ) → (covers left j && all_above (take (n + 1) (set kept n (f i))) c j) ≡ (covers reach j && all_above (map f (range 0 (i + 1))) c j)
        step j c =
            ap (λ (fs : List EdgeFunction). covers left j && all_above fs c j) behind
            ∙ ap (λ (t : Bool). covers left j && t) (above_last (take n kept) (f i) c j)
            ∙ sym (and_assoc (covers left j) (all_above (take n kept) c j) (above (f i) c j))
            ∙ ap (λ (t : Bool). t && above (f i) c j) (inv.same j c)
            ∙ and_assoc (covers reach j) (all_above (map f (range 0 i)) c j) (above (f i) c j)
            ∙ ap (λ (t : Bool). covers reach j && t) (sym (all_last f i c j))

  module _ {kept : List EdgeFunction} {r : Sloped} {i : ℕ} (inv : KeptUpTo f count reach kept r.reach r.count i) (h : i < count) (bounded : FunctionBounded (f i)) where
    -- either way
    pub keeping_goes : {kept' : List EdgeFunction} {r' : Sloped} → KeepsOne (f i) r kept kept' r' → KeptUpTo f count reach kept' r'.reach r'.count (i + 1)
    keeping_goes {kept'} {r'} (inl (e, same, n-is, clipped)) = rw (same, n-is) (keeping_level inv h bounded e clipped)
    keeping_goes {kept'} {r'} (inr (n, set-is, r-is)) = rw (set-is, r-is) (keeping_sloped inv h bounded)

    pub one_asked : OneAsked (f i) r kept
    one_asked =
        record {
          bounded = bounded;
          shaped = record { written = inv.shaped.written; limited = omega (arith, inv.shaped.limited, asked.shaped.limited) };
          room = omega (arith, inv.fewer, inv.room);
        }
