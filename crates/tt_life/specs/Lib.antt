-- What public contracts cite.
pub mod Life
-- What private contracts and proofs cite. Nobody has to believe these.
pub mod inside
