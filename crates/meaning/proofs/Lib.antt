pub mod Clauses
pub mod Laws
pub mod Worked
