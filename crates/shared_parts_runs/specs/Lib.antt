pub mod Crews
pub mod SeatRow
