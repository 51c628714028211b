-- Questions on the call, answered test by test.
mod Axes
