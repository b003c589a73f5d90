pub mod Asked
pub mod Ends
pub mod Putting
pub mod Promise
pub mod Loading
pub mod Running
