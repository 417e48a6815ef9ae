-- What the crates above cite, a file a subject.
pub mod Datagrams
pub mod Found
pub mod HullKeys
pub mod Inside
pub mod UnchangedPlaces
pub mod Repairs
pub mod Absent
pub mod Named
pub mod Projects
pub mod AnswerGiven
pub mod Applying
