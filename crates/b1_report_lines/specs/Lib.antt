pub mod Reading
pub mod Seen
pub mod Answers
pub mod Forms
pub mod Lines
pub mod Markers
