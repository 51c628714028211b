-- The mathematics over the definitions.

-- the worked examples
pub mod Computing
pub mod Encode
pub mod Scenes
pub mod Stations
pub mod Limits
pub mod Doubles
-- tests over lists
pub mod Tests
pub mod Loops
pub mod Answers
pub mod FirstNo
pub mod Struck
pub mod WholeStation
pub mod Nearest
pub mod CallLimits
pub mod LastCell
pub mod PanelNumbers
-- the geometry of met patches
pub mod Vectors
pub mod Sizes
pub mod Views
pub mod Rounds
pub mod Patches
pub mod Crossing
pub mod Fan
pub mod Sides
pub mod Separation
pub mod OnePlane
pub mod Inside
-- the closest patch, and the walk that meets it first
pub mod Precedes
pub mod Closest
pub mod FirstMet
pub mod Visibility
-- pictures, counts, and chosen panels taken away
pub mod Ranges
pub mod Tables
pub mod Runs
pub mod Totals
pub mod Cells
-- the lit map
pub mod Bits
pub mod LitMap
pub mod Counts
pub mod Pictures
pub mod Kept
pub mod Removal
-- cells booked patch by patch
pub mod Leads
pub mod Booked
pub mod Labels
pub mod PanelSums
-- the lines just beside a sight line
pub mod Steep
pub mod Alike
pub mod Beside
pub mod PatchTables
pub mod BesideCells
