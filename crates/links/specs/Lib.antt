pub mod Chain
pub mod Keys
