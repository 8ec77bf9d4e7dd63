-- What follows from the definitions of lag and gain.
pub mod Lags
pub mod Rounding
pub mod Stars
pub mod Gains
pub mod Reach
pub mod Receiving
