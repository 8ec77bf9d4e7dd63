-- The laws of the replay's listing in calls.
pub mod WholeInput
