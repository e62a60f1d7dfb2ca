pub mod Answering
pub mod BodyLemmas
pub mod CommentLemmas
pub mod Loops
