-- What public contracts cite.
pub mod Solutions
pub mod Totals
-- What private contracts and proofs cite. Nobody has to believe these.
pub mod inside
