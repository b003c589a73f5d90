mod ViewLemmas
mod BalanceLemmas
