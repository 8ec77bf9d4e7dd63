-- Each of the eight sums is a sum by itself, and its steps may be taken in pairs.
pub mod EachLane
pub mod Times
pub mod ThreeSums
pub mod InPairs
pub mod Sums
