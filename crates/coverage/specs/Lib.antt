-- The points that a panel covers.
pub mod Coverage
