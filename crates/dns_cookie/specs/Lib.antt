pub mod Cookie
pub mod Judging
pub mod Places
pub mod Plain
pub mod Reply
