pub mod TrafficLemmas
