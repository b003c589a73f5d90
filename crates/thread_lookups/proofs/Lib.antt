mod AskLemmas
mod RunLemmas
mod EndLemmas
mod SendLemmas
