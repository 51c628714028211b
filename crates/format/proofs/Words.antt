-- A vector that was handed over in words of 16 bits is the same vector.
use mathlib.Core.Path.{◌≡◌, ◌∙◌}
use lib.IntN.{ℤ}
use mir.Syntax.{w16}
use mir.Val.{SFits, to_z, of_z}
use mir.ValLaws.{to_z-of_z}
use Rattle.model.specs.Vector.{Vec, vec}

-- a vector of words
abbrev pub words : ℤ → ℤ → ℤ → Vec
words x y z = vec (to_z w16 (of_z w16 x)) (to_z w16 (of_z w16 y)) (to_z w16 (of_z w16 z))

pub same_vector : {x y z : ℤ} → SFits w16 x → SFits w16 y → SFits w16 z → words x y z ≡ vec x y z
same_vector {x} {y} {z} f g h = λ i. vec (to_z-of_z w16 x f i) (to_z-of_z w16 y g i) (to_z-of_z w16 z h i)

pub handed : {x y z : ℤ} {v : Vec} → SFits w16 x → SFits w16 y → SFits w16 z → v ≡ words x y z → v ≡ vec x y z
handed f g h e = e ∙ same_vector f g h
