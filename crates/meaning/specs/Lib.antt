pub mod Law
pub mod Meaning
pub mod Worked
