-- Scenes with chosen panels taken away and a ring cut in two ways, from the scenes' bytes: all that demand 3 and F-5 ask for is met at once.
use mathlib.Core.Path.{◌≡◌, refl, sym, ap}
use mathlib.Core.Bool.{Bool, true, false}
use mathlib.Core.List.{List, [], ◌∷◌, ◌++◌, map}
use Prim.Native.Nat.{ℕ}
use native.Mathlib.Omega.{arith}
use lib.Dec.{eqb}
use lib.IntN.{pos}
use lib.Ieee.{Float, binary64, of_bits}
use lib.ListN.{get_or, replicate}
use Rattle.model.specs.Lists.{any, add_if}
use Rattle.model.specs.Vector.{vec, origin}
use Rattle.model.specs.View.{Camera, level_axes}
use Rattle.model.specs.Station.{Station, units, metres, eye_of, view_at}
use Rattle.model.specs.Lent.{Lent}
use Rattle.model.specs.Questions.{survey_answer}
use Rattle.model.specs.Survey.{call_picture}
use Rattle.model.specs.Removal.{same_points, same_patch, times_listed, kept, TakenAway}
use Rattle.model.proofs.Computing.{everything}
use Rattle.model.proofs.Encode.{scene_bytes}
use Rattle.model.proofs.Scenes.{square, upright, none, node_line, patch_line, scene_s, scene_t, scene_tless5, scene_tless7, scene_twice, no_nodes, usual}
use Rattle.coverage.specs.Coverage.{SameCover}
use Rattle.worked.proofs.Examples.{halves, halves_cover}
use Rattle.contract.specs.Contract.{tile_by, camera_by, lent_of, call_on, results, left_by, Surveyed}
use Rattle.model.specs.Format.{patches_in}
use Rattle.demands.specs.Demands.{ChosenTakenAway, SameSurvey}
use Rattle.demands.proofs.Demands.{chosen_panels_taken_away, cuttings_surveyed}

-- ---- chosen panels taken away

-- the panels chosen, as a list
abbrev pub among : List ℕ → ℕ → Bool
among ns n = any (eqb n) ns

-- T with S's square twice
abbrev twice_behind : List ℕ
twice_behind =
    scene_bytes
    (node_line (upright (pos 100) (pos 50)) 1 none 0 2 ∷ node_line (upright (pos 50) (pos 20)) none none 2 1 ∷ [])
    (patch_line 5 0 4 ∷ patch_line 5 4 4 ∷ patch_line 7 8 4 ∷ [])
    (square (pos 100) (pos 50) ++ (square (pos 100) (pos 50) ++ square (pos 50) (pos 20)))

-- T under another tree, its patches in the other order: the nearer plane is the root
abbrev other_tree : List ℕ
other_tree =
    scene_bytes
    (node_line (upright (pos 50) (pos 20)) none 1 0 1 ∷ node_line (upright (pos 100) (pos 50)) none none 1 1 ∷ [])
    (patch_line 7 0 4 ∷ patch_line 5 4 4 ∷ [])
    (square (pos 50) (pos 20) ++ square (pos 100) (pos 50))

pub taken_5 : TakenAway (among (5 ∷ [])) (patches_in scene_t) (patches_in scene_tless5)
unfolding everything kept
taken_5 p = refl

pub taken_7 : TakenAway (among (7 ∷ [])) (patches_in scene_t) (patches_in scene_tless7)
unfolding everything kept
taken_7 p = refl

pub taken_all : TakenAway (among (5 ∷ [])) (patches_in scene_s) (patches_in no_nodes)
unfolding everything kept
taken_all p = refl

-- "demand 3 counts a repeated patch as often as it stands"
pub taken_before_two : TakenAway (among (7 ∷ [])) (patches_in twice_behind) (patches_in scene_twice)
unfolding everything kept
taken_before_two p = refl

-- order and tree have no part in it
pub taken_none : TakenAway (among []) (patches_in scene_t) (patches_in other_tree)
unfolding everything kept times_listed
taken_none p = swapped (same_patch p _) (same_patch p _)
  where
    swapped : (a b : Bool) → add_if a (add_if b 0) ≡ add_if b (add_if a 0)
    swapped true true = refl
    swapped true false = refl
    swapped false true = refl
    swapped false false = refl

-- Twice is not once, though both show the same.
pub twice_is_not_once :
    (TakenAway (among []) (patches_in scene_twice) (patches_in scene_s) → ⊥)
    × (call_picture (usual scene_twice) ≡ call_picture (usual scene_s))
unfolding everything kept times_listed same_patch same_points
twice_is_not_once = (
  λ taken. omega (arith, taken (record { panel = 5; corners = square (pos 100) (pos 50) })),
  refl,
)

-- ---- two calls, with all that is asked of them

abbrev double : ℕ → Float
double = of_bits binary64

-- 0.0625 metres to the right (12.5 units: halfway, and 12 is even), the double of 0.06 metres (just below 12 units), and 12 units
abbrev halfway_to12 : Station
halfway_to12 = metres (double 0x3fb0_0000_0000_0000) (double 0) (double 0x8000_0000_0000_0000)

abbrev near_to12 : Station
near_to12 = metres (double 0x3fae_b851_eb85_1eb8) (double 0) (double 0)

abbrev right12 : Station
right12 = units (vec (pos 12) (pos 0) (pos 0))

-- All three have one eye.
pub one_eye : (eye_of halfway_to12 ≡ eye_of right12) × (eye_of near_to12 ≡ eye_of right12)
unfolding everything of_bits
one_eye = (refl, refl)

-- a level camera, 4 by 4, lens 4, the window drawn as one tile
abbrev pub by_four : Camera
by_four = camera_by level_axes 4 4 4 (tile_by 0 0 4 4)

-- buffers for it and a scene of this many patches, the counter too, all holding one number
abbrev holding : ℕ → ℕ → Lent
holding n patches = lent_of (replicate 16 n) (replicate 1025 n) (replicate patches n) (replicate 1024 n) (replicate 16 n) n

-- what a call with it leaves
abbrev left : List ℕ → Station → Lent → Lent
left bytes s before = results (call_on bytes s by_four before)

-- a call that is answered by 0 keeps the contract with what it leaves
pub surveyed :
    (bytes : List ℕ) (s : Station) (c : Camera) (before : Lent) →
    survey_answer (call_on bytes s c before) ≡ 0 →
    Surveyed bytes s c before (results (call_on bytes s c before)) 0
surveyed bytes s c before e =
    record { answered = sym e; left = sym (ap (λ (n : ℕ). left_by n (results (call_on bytes s c before)) before) e) }

-- two calls that keep the contract, answer 0, have one eye and show these pictures
pub record TwoCalls
    (first_bytes second_bytes : List ℕ) (s₁ s₂ : Station) (before₁ before₂ : Lent) (first_shows second_shows : List ℕ)
    : Type 0 where
  pub first_call : Surveyed first_bytes s₁ by_four before₁ (left first_bytes s₁ before₁) 0
  pub second_call : Surveyed second_bytes s₂ by_four before₂ (left second_bytes s₂ before₂) 0
  pub eye : eye_of s₁ ≡ eye_of s₂
  pub first_shows_lem : (left first_bytes s₁ before₁).picture ≡ first_shows
  pub second_shows_lem : (left second_bytes s₂ before₂).picture ≡ second_shows

-- All that demand 3 asks of two calls, with these panels chosen that have so many cells each, and what it says of them.
pub record Compared
    (chosen cells : List ℕ) (first_bytes second_bytes : List ℕ) (s₁ s₂ : Station) (before₁ before₂ : Lent) (first_shows second_shows : List ℕ)
    : Type 0 where
  pub calls : TwoCalls first_bytes second_bytes s₁ s₂ before₁ before₂ first_shows second_shows
  pub counted : map (λ (n : ℕ). get_or (left first_bytes s₁ before₁).counts n 0) chosen ≡ cells
  pub taken : TakenAway (among chosen) (patches_in first_bytes) (patches_in second_bytes)
  pub demand_three : ChosenTakenAway first_bytes (among chosen) (view_at s₁ by_four) (left first_bytes s₁ before₁) (left second_bytes s₂ before₂)

compared :
    {chosen cells : List ℕ} {first_bytes second_bytes : List ℕ} {s₁ s₂ : Station} {before₁ before₂ : Lent} {first_shows second_shows : List ℕ} →
    TwoCalls first_bytes second_bytes s₁ s₂ before₁ before₂ first_shows second_shows →
    map (λ (n : ℕ). get_or (left first_bytes s₁ before₁).counts n 0) chosen ≡ cells →
    TakenAway (among chosen) (patches_in first_bytes) (patches_in second_bytes) →
    Compared chosen cells first_bytes second_bytes s₁ s₂ before₁ before₂ first_shows second_shows
compared {chosen} c counted taken =
    record {
      calls = c;
      counted = counted;
      taken = taken;
      demand_three = chosen_panels_taken_away c.first_call c.second_call (among chosen) c.eye refl refl taken;
    }

-- rows 1 and 2 of a picture 4 by 4, alike, between two rows of 0
abbrev two_rows : ℕ → ℕ → List ℕ
two_rows a b = 0 ∷ 0 ∷ 0 ∷ 0 ∷ 0 ∷ a ∷ b ∷ 0 ∷ 0 ∷ a ∷ b ∷ 0 ∷ 0 ∷ 0 ∷ 0 ∷ 0 ∷ []

two_calls :
    {first_bytes second_bytes : List ℕ} {s₁ s₂ : Station} {before₁ before₂ : Lent} {first_shows second_shows : List ℕ} →
    survey_answer (call_on first_bytes s₁ by_four before₁) ≡ 0 →
    survey_answer (call_on second_bytes s₂ by_four before₂) ≡ 0 →
    eye_of s₁ ≡ eye_of s₂ →
    (left first_bytes s₁ before₁).picture ≡ first_shows →
    (left second_bytes s₂ before₂).picture ≡ second_shows →
    TwoCalls first_bytes second_bytes s₁ s₂ before₁ before₂ first_shows second_shows
two_calls a b e p q =
    record {
      first_call = surveyed _ _ _ _ a;
      second_call = surveyed _ _ _ _ b;
      eye = e;
      first_shows_lem = p;
      second_shows_lem = q;
    }

-- Panel 7 taken from T, from 12 units to the right: it had two of the four cells, and both show panel 5 now.
pub taken_away_worked :
    Compared (7 ∷ []) (2 ∷ []) scene_t scene_tless7 halfway_to12 right12 (holding 1 2) (holding 2 1) (two_rows 7 5) (two_rows 5 5)
unfolding everything of_bits
taken_away_worked = compared (two_calls refl refl refl refl refl) refl taken_7

-- From the middle it has all four; panel 5 has none there, so taking it away changes nothing; and S less its panel shows nothing.
pub taken_away_whole :
    Compared (7 ∷ []) (4 ∷ []) scene_t scene_tless7 (units origin) (units origin) (holding 1 2) (holding 2 1) (two_rows 7 7) (two_rows 5 5)
unfolding everything
taken_away_whole = compared (two_calls refl refl refl refl refl) refl taken_7

pub taken_away_unseen :
    Compared (5 ∷ []) (0 ∷ []) scene_t scene_tless5 (units origin) (units origin) (holding 1 2) (holding 2 1) (two_rows 7 7) (two_rows 7 7)
unfolding everything
taken_away_unseen = compared (two_calls refl refl refl refl refl) refl taken_5

pub taken_away_all :
    Compared (5 ∷ []) (4 ∷ []) scene_s no_nodes (units origin) (units origin) (holding 1 1) (holding 2 0) (two_rows 5 5) (two_rows 0 0)
unfolding everything
taken_away_all = compared (two_calls refl refl refl refl refl) refl taken_all

-- Both panels of T at once, and one that is on no patch; a patch that stands twice behind the chosen panel; and none chosen, under another tree.
pub taken_away_both :
    Compared (5 ∷ 7 ∷ 1024 ∷ []) (0 ∷ 4 ∷ 0 ∷ []) scene_t no_nodes (units origin) (units origin) (holding 1 2) (holding 2 0) (two_rows 7 7) (two_rows 0 0)
unfolding everything kept
taken_away_both = compared (two_calls refl refl refl refl refl) refl (λ p. refl)

pub taken_away_before_two :
    Compared (7 ∷ []) (4 ∷ []) twice_behind scene_twice (units origin) (units origin) (holding 1 3) (holding 2 2) (two_rows 7 7) (two_rows 5 5)
unfolding everything
taken_away_before_two = compared (two_calls refl refl refl refl refl) refl taken_before_two

pub taken_away_none :
    Compared [] [] scene_t other_tree (units origin) (units origin) (holding 1 2) (holding 2 2) (two_rows 7 7) (two_rows 7 7)
unfolding everything
taken_away_none = compared (two_calls refl refl refl refl refl) refl taken_none

-- All that F-5 asks of two calls, and what it says of them.
pub record CutAnew
    (first_bytes second_bytes : List ℕ) (s₁ s₂ : Station) (before₁ before₂ : Lent) (shows : List ℕ)
    : Type 0 where
  pub calls : TwoCalls first_bytes second_bytes s₁ s₂ before₁ before₂ shows shows
  pub same_cover : SameCover (patches_in first_bytes) (patches_in second_bytes)
  pub two_cuttings : SameSurvey (left first_bytes s₁ before₁) (left second_bytes s₂ before₂)

-- S and its halves under another tree, from 12 units to the right.
pub cuttings_worked : CutAnew scene_s halves halfway_to12 near_to12 (holding 1 1) (holding 2 2) (two_rows 5 5)
unfolding everything of_bits
cuttings_worked =
    let c = two_calls refl refl refl refl refl in
    record {
      calls = c;
      same_cover = halves_cover;
      two_cuttings = cuttings_surveyed c.first_call c.second_call c.eye refl refl halves_cover;
    }
