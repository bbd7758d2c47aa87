pub mod GivenBytes
pub mod Limit
pub mod Marked
pub mod OneStatus
pub mod ReadBack
pub mod Sets
pub mod Taken
pub mod TreeByTree
