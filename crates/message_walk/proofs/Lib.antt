mod FrontLemmas
mod NamingLemmas
mod NamesLemmas
mod OptionLemmas
mod SectionLemmas
mod OutlineLemmas
