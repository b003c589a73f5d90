pub mod Entries
pub mod Output
pub mod Promise
pub mod Running
pub mod Answered
pub mod Cookies
pub mod Loan
