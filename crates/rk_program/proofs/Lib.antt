mod Answered
pub mod Accepted
pub mod BatchLemmas
pub mod CauseLemmas
pub mod EndLemmas
mod Examples
pub mod LineLemmas
pub mod NameLemmas
pub mod Naming
pub mod OneText
pub mod OutputLemmas
pub mod SomeText
pub mod StoreLemmas
pub mod Told
pub mod Transcripts
