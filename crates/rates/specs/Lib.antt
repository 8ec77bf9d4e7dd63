-- What both ends share, in the order of docs/SCOPE.md: the table, the durations and lengths, the answers.
pub mod Table
pub mod Durations
pub mod Configs
pub mod Answers
pub mod Lengths
