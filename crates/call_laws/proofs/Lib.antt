-- The laws of calls one after the other.
pub mod Both
pub mod Kept
pub mod Renamed
