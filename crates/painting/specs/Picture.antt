-- A whole picture, painted with a walk: what is asked, and what it leaves.
use Rattle.std.specs.Prelude.{◌≡◌, ℕ, ◌*◌, ◌≤◌, length}
use mathlib.Core.List.{List, map, flatten}
use Rattle.model.specs.Lists.{range}
use Rattle.model.specs.Vector.{Vec}
use Rattle.model.specs.Patch.{Patch}
use Rattle.model.specs.Row.{row_of, row_length}
use Rattle.model.specs.Map.{row_words, map_row}
use Rattle.format.specs.declared.layout.Layout.{Layout}
use Rattle.edges.specs.declared.Sight.{Sight}
use Rattle.scanline.specs.Shown.{shown_after, unlit_after}
use Rattle.conversion.specs.Progress.{Paintable}

-- a picture of a size that rows are made for, and lists and a map with just the room for its rows
pub record Framed (width height : ℕ) (picture unlit lit : List ℕ) : Type 0 where
  pub narrow : width ≤ row_length
  pub low : height ≤ 128
  pub cells : length picture ≡ width * height
  pub rows : length unlit ≡ height * row_length
  pub words : length lit ≡ height * row_words

-- what painting a whole picture asks
pub record PictureAsked
    (bytes : List ℕ) (l : Layout) (s : Sight) (order picture unlit lit booked : List ℕ) : Type 0 where
  pub paintable : Paintable bytes l s order
  pub framed : Framed s.raster.width s.raster.height picture unlit lit
  pub entries : length booked ≡ l.patches

-- the rows of a picture, one after the other, of the unlit lists and of the lit map
pub record RowsPainted
    (eye : Vec) (ray : ℕ → ℕ → Vec) (walk : List Patch) (width height : ℕ) (picture unlit lit : List ℕ) : Type 0 where
  pub picture_is :
      picture ≡ flatten (map (λ (j : ℕ). map (shown_after eye (λ (i : ℕ). ray i j) walk) (range 0 width)) (range 0 height))
  pub unlit_is :
      unlit ≡ flatten (map (λ (j : ℕ). row_of width (unlit_after eye (λ (i : ℕ). ray i j) walk)) (range 0 height))
  pub lit_is :
      lit ≡ flatten (map (λ (j : ℕ). map_row width (unlit_after eye (λ (i : ℕ). ray i j) walk)) (range 0 height))
