pub mod SeatLaws
pub mod SumLaws
pub mod HoldLaws
pub mod ByteLaws
