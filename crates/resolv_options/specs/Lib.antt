pub mod Values
pub mod Fields
pub mod Defaults
pub mod Search
pub mod Lasts
pub mod Keywords
pub mod OptionWords
pub mod Resolv
