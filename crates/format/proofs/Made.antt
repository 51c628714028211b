-- Records made of equal parts are equal.
use mathlib.Core.Path.{◌≡◌}
use mathlib.Core.List.{List}
use Prim.Native.Nat.{ℕ, ◌+◌}
use lib.IntN.{ℤ}
use Rattle.model.specs.Vector.{Vec, vec}
use Rattle.model.specs.Format.{NodeRecord, PatchRecord, u16_at, i16_at, point_at, node_at, patch_at}

pub vec_made : {a b c x y z : ℤ} → a ≡ x → b ≡ y → c ≡ z → vec a b c ≡ vec x y z
vec_made p q r = λ i. vec (p i) (q i) (r i)

module _ (bytes : List ℕ) (at : ℕ) where
  pub point_made :
      {v : Vec} {x y z : ℤ} →
      v ≡ vec x y z →
      x ≡ i16_at bytes at →
      y ≡ i16_at bytes (at + 2) →
      z ≡ i16_at bytes (at + 4) →
      v ≡ point_at bytes at
  unfolding point_at
  point_made e p q r = rw e (vec_made p q r)

  pub node_made : {a b c : Vec} {p n first count : ℕ} →
      a ≡ point_at bytes at → b ≡ point_at bytes (at + 6) → c ≡ point_at bytes (at + 12) →
      p ≡ u16_at bytes (at + 18) → n ≡ u16_at bytes (at + 20) → first ≡ u16_at bytes (at + 22) → count ≡ u16_at bytes (at + 24) →
      ◌≡◌ {A =
      NodeRecord} (record
      { plane = record { a = a; b = b; c = c }; positive = p; negative = n; patch_run = record { first = first; count = count } }) (node_at
      bytes at)
  unfolding node_at
  node_made ea eb ec ep en ef ek = λ i. record { plane = record { a = ea i; b = eb i; c = ec i }; positive = ep i; negative = en i; patch_run = record { first = ef i; count = ek i } }

  pub patch_made : {panel first count : ℕ} →
      panel ≡ u16_at bytes at → first ≡ u16_at bytes (at + 2) → count ≡ u16_at bytes (at + 4) →
      ◌≡◌ {A = PatchRecord} (record { panel = panel; corner_run = record { first = first; count = count } }) (patch_at bytes at)
  unfolding patch_at
  patch_made ep ef ek = λ i. record { panel = ep i; corner_run = record { first = ef i; count = ek i } }
