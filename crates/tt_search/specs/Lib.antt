-- What public contracts cite.
pub mod PartialTree
pub mod Numbers
pub mod MostProving
pub mod Growing
pub mod Settled
pub mod SearchState
pub mod RunEnds
pub mod Stores
pub mod Usable
pub mod Grants
pub mod KeyIndex
-- What crates above cite: laws of the definitions, with their proofs. Nobody has to believe these.
pub mod laws
-- What private contracts and proofs cite. Nobody has to believe these.
pub mod inside
