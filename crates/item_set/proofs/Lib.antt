pub mod Words
pub mod Counts
