pub mod Points
pub mod Checks
pub mod Goes
pub mod Laws
pub mod Leaves
