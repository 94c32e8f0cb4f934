pub mod Entering
pub mod Growing
pub mod Stands
