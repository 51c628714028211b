-- What the crate's contracts cite.
pub mod Shown
pub mod Laying
