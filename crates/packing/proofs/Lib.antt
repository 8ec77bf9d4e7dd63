-- What follows from the definitions of the record in bytes.
pub mod Numbers
pub mod ByBytes
pub mod RoundTrips
pub mod Counts
