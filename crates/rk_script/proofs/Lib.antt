mod Examples
pub mod Texts
pub mod Naming
pub mod Escapes
pub mod KeyTests
pub mod Cutting
pub mod Reading
pub mod Printing
