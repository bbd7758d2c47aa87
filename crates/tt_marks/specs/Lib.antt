-- What public contracts cite.
pub mod Reached
pub mod Walls
pub mod Closings
