pub mod Typing
pub mod Completing
pub mod Early
pub mod Codes
pub mod ExpressionCode
pub mod StatementCode
pub mod ClassCode
pub mod Checking
