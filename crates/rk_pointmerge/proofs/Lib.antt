pub mod Bests
pub mod Calls
pub mod Shares
pub mod Arriving
pub mod Keys
pub mod Methods
pub mod Places
pub mod Sights
pub mod Ways
pub mod Looking
pub mod Viewings
mod Examples
