pub mod Latest
pub mod Rule
