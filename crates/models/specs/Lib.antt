-- What a model that is handed over holds, and the number of each verdict.
pub mod Lent
pub mod Verdicts
