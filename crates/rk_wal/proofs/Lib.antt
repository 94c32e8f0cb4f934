pub mod Appended
pub mod Appending
pub mod Counted
pub mod OneMore
pub mod Opened
pub mod Taken
