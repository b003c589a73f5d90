pub mod Telling
pub mod Matching
pub mod Sections
pub mod Outlines
