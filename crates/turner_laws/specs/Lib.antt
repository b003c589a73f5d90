pub mod Traffic
