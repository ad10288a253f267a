pub mod Safe
pub mod Small
