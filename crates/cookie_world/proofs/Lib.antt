mod BegunLemmas
mod GoesLemmas
mod LogLemmas
mod ReasonLemmas
mod ReceivingLemmas
mod RepeatLemmas
mod RoundLemmas
mod ServingLemmas
