pub mod Faults
pub mod Grammar
pub mod Reading
pub mod Places
pub mod Signs
pub mod Lines
pub mod Laws
