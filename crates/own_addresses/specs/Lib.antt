pub mod Choice
pub mod Telling
pub mod Machine
pub mod Leaves
