pub mod Appended
pub mod GroupMore
pub mod Growing
pub mod Nothing
pub mod Opened
pub mod SameStores
pub mod Switched
