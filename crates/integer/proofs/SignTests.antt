-- What `search signs` proves, and an order proved by its difference.
use mathlib.Core.List.{[], ◌∷◌}
use lib.IntN.{ℤ, pos, neg_ℤ, ◌+ℤ◌, ◌-ℤ◌, ◌*ℤ◌}
use lib.Signed.{◌≤ℤ◌, ◌<ℤ◌}
use Rattle.integer.proofs.Identity.{ring, reify}
use Rattle.integer.proofs.Order.{<_by}
use Rattle.integer.proofs.Products.{signs}

made : (a b c d : ℤ) → pos 0 <ℤ a → pos 0 ≤ℤ b → c <ℤ pos 0 → pos 0 <ℤ (a *ℤ (b +ℤ pos 3) +ℤ neg_ℤ c *ℤ a +ℤ d *ℤ d)
made a b c d h k l = search signs depth 8 fits 20000

weak : (a b c d : ℤ) → pos 0 ≤ℤ a → pos 0 ≤ℤ b → c ≤ℤ pos 0 → pos 0 ≤ℤ (a *ℤ b *ℤ (d *ℤ d) +ℤ (a +ℤ b) *ℤ (neg_ℤ c +ℤ b))
weak a b c d h k l = search signs depth 8 fits 20000

-- a < b and 0 < c give a·c < b·c + 1
grown : (a b c : ℤ) → a <ℤ b → pos 0 <ℤ c → (a *ℤ c) <ℤ (b *ℤ c +ℤ pos 1)
grown a b c h k =
    <_by {w = (b -ℤ a) *ℤ c +ℤ pos 1} (search signs depth 8 fits 20000) (ring (a ∷ b ∷ c ∷ []) (search reify depth 40 fits 200000, tt))
