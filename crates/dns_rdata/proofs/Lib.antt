pub mod NamingLemmas
pub mod NumberLemmas
pub mod PartsLemmas
pub mod SpellingLemmas
pub mod TypedLemmas
pub mod WordLemmas
pub mod Theorems
