-- The verdict on a frame, in the scope's order: what a pitch record asks for, the refusals, what of them both ears share; of an accepted frame
-- the filters and the products.
pub mod Pitch
pub mod Judge
pub mod Lent
pub mod Filters
pub mod Products
