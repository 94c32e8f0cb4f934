pub mod Joined
pub mod JoinedLaws
pub mod Given
pub mod GivenLaws
