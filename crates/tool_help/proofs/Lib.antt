pub mod TakenLemmas
pub mod HelpLemmas
