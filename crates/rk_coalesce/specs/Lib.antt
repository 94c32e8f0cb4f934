pub mod SpanKeys
pub mod Places
pub mod Numbers
