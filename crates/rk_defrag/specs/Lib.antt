pub mod Defrags
pub mod Moves
pub mod DefragLaws
