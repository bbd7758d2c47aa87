-- What public contracts cite.
pub mod Faults
pub mod Watching
pub mod Writing
-- What crates above cite: laws of the definitions, with their proofs. Nobody has to believe these.
pub mod laws
