mod ClosureLemmas
