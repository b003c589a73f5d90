mod PassLemmas
mod RoundLemmas
mod SeatRowLemmas
