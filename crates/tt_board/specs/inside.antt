-- What private contracts and proofs cite. Nobody has to believe these.
pub mod Planes
pub mod Differences
pub mod Boards
pub mod Chains
pub mod Neighbours
