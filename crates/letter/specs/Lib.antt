pub mod Refusals
pub mod Letters
pub mod Numbers
pub mod Bytes
pub mod Unique
pub mod Names
pub mod Worked
