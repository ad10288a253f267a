pub mod Words
pub mod Beginning
pub mod Starting
pub mod TypesPass
pub mod MarksPass
pub mod OneMethod
pub mod Chain
pub mod Bodies
