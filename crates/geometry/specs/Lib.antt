-- Machine vectors as the model's vectors.
pub mod Machine
-- the rays of a picture
pub mod Raster
