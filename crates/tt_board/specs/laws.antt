-- What crates above cite: laws of the definitions, with their proofs. Nobody has to believe these.
pub mod NearLaws
pub mod ClearLaws
