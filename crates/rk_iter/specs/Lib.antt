pub mod Iterating
pub mod Inside
