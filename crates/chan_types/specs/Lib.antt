pub mod Statuses
pub mod Plans
pub mod PlanCode
pub mod Scripts
pub mod Falls
pub mod Gives
pub mod Runs
pub mod RunFalls
