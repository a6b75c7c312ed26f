pub mod Report
pub mod Listing
