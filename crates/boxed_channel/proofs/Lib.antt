pub mod AsBox
pub mod AnswerLemmas
pub mod JournaledLemmas
