-- Where the extent of a node answers, all patches at and below it are held.
use mathlib.Core.Path.{◌≡◌, refl, sym, ap₂}
use mathlib.Core.Bool.{Bool, true, ◌&&◌}
use mathlib.Core.List.{List, [], ◌∷◌, Memᴰ}
use Prim.Native.Nat.{ℕ, ◌<◌}
use native.Mathlib.Omega.{arith}
use native.Mathlib.Decide.{dec_lt}
use Rattle.model.specs.Lists.{every}
use Rattle.model.specs.Patch.{Patch}
use Rattle.model.specs.Tree.{contents}
use Rattle.model.specs.Format.{decode, patch_numbered}
use Rattle.model.proofs.Ranges.{of_map}
use Rattle.format.specs.declared.layout.Layout.{Layout}
use Rattle.boxes.specs.declared.Extent.{Extent}
use Rattle.checked.specs.Checked.{Checked, tree_below}
use Rattle.checked.proofs.Nodes.{no_node}
use Rattle.halfspaces.specs.Sides.{held}
use Rattle.halfspaces.specs.declared.planes.Plane.{Plane}
use Rattle.halfspaces.specs.declared.planes.Sides.{Sides}
use Rattle.box_sides.specs.Beyond.{Settled}
use Rattle.division.specs.Division.{Against}
use Rattle.division.proofs.Branches.{patches_below, every_leaf}

module _ {bytes : List ℕ} {l : Layout} {boxes : List Extent} {k : ℕ} {s : Plane} (w : Checked bytes l) (a : Against bytes l s boxes) (wanted : Sides) where
  pub settled_held : {r : Bool} → Settled l.nodes k boxes s wanted r → r ≡ true → true ≡ every (held s wanted) (patches_below bytes k)
  settled_held settled y = go (dec_lt k l.nodes)
    where
      every_passes : (l : List Patch) → ((p : Patch) → Memᴰ p l → held s wanted p ≡ true) → every (held s wanted) l ≡ true
      every_passes [] f = refl
      every_passes (p ∷ l) f = ap₂ ◌&&◌ (f p (Memᴰ.head refl)) (every_passes l (λ q m. f q (Memᴰ.tail m)))

      go : Dec (k < l.nodes) → true ≡ every (held s wanted) (patches_below bytes k)
      go (yes h) =
          sym
          (every_passes (patches_below bytes k)
          (of_map (λ (p : Patch). held s wanted p ≡ true) (patch_numbered (decode bytes)) (contents (tree_below bytes k))
          (λ j m. settled.says y h (patch_numbered (decode bytes) j) ((a.extents.each k (omega arith) h).encloses j m))))
      go (no h) = every_leaf (held s wanted) bytes k (no_node bytes l w k (omega arith))
