pub mod Untaken
pub mod InOrder
pub mod Parts
pub mod InTurn
pub mod Folding
