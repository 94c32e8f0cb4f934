mod Examples
pub mod Alike
pub mod Syncs
pub mod NewStore
pub mod Numbers
pub mod Outcomes
pub mod Recovering
pub mod Refusals
pub mod Several
