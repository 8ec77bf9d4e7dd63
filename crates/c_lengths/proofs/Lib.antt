-- What the lengths lean on.
pub mod Orders
