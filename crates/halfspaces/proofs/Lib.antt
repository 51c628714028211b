-- What the corners of a patch say of it.
mod SidesFound
