pub mod Words
pub mod Numbers
pub mod Items
pub mod Digits
pub mod Commands
pub mod Lines
pub mod Verbs
