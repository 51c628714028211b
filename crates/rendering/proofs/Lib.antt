-- The painted rows as the closest panels, the walk of an accepted scene, and the counts.
mod Results
mod Walks
mod Counts
