-- What private contracts and proofs cite. Nobody has to believe these.
pub mod Lengths
