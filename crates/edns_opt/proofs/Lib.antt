pub mod OptionsLemmas
pub mod OptLemmas
