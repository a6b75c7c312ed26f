pub mod Law
pub mod Rounds
