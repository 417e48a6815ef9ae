-- What the crates above cite, a file a subject.
pub mod Crossing
pub mod Images
pub mod Joined
-- What other crates cite.
pub mod AnswerGiven
