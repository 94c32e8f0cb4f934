pub mod Agreement
pub mod Standing
pub mod Joining
pub mod Answers
