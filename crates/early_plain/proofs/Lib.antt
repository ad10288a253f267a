mod Accesses
mod ClassTrees
pub mod Expressions
mod FieldTables
mod JoinedBlocks
mod LegalSteps
mod Lookups
mod Seams
mod SerialCalls
pub mod SitesOfTrees
mod Statements
mod StraightBodies
mod SumTrees
mod Totals
mod WholeBodies
mod WholeCalls
