pub mod Refused
pub mod Groups
pub mod Reading
pub mod Chained
pub mod Places
pub mod Writes
pub mod Worked
pub mod Unique
