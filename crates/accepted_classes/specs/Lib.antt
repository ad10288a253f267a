pub mod Classes
pub mod Known
pub mod Laws
pub mod Beginning
