-- What public contracts cite.
pub mod CommandLine
pub mod Headline
pub mod OtherLines
pub mod Tasks
pub mod Writing
-- What private contracts and proofs cite. Nobody has to believe these.
pub mod inside
