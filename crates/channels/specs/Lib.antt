pub mod Sent
pub mod Outboxes
pub mod Marks
