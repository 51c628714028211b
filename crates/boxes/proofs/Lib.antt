-- What boxes hold.
pub mod BoxLaws
