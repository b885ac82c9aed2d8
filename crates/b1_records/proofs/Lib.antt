pub mod Loop
pub mod Formats
pub mod Records
pub mod Appended
pub mod Cookies
