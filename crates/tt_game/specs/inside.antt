-- What private contracts and proofs cite. Nobody has to believe these.
pub mod Undoing
pub mod Roots
