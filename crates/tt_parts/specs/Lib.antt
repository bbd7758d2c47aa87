-- What public contracts cite.
pub mod Outlines
pub mod OutlineLaws
pub mod SharedCertFaults
pub mod SharedParts
pub mod SharedWins
-- What private contracts and proofs cite. Nobody has to believe these.
pub mod inside
