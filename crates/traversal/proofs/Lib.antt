-- A walk that goes on, row by row full.
mod Walking
