-- What public contracts cite.
pub mod GameHistory
pub mod Game
pub mod Sides
pub mod Superko
pub mod Legality
pub mod MoveGenerators
pub mod Turns
pub mod Keys
pub mod SameKey
pub mod Mixing
pub mod BloomFilter
pub mod KeyHash
pub mod GameLaws
pub mod Line
pub mod Games
pub mod Nodes
pub mod Records
pub mod Problems
pub mod Faults
pub mod RecordLaws
-- What crates above cite: laws of the definitions, with their proofs. Nobody has to believe these.
pub mod laws
-- What private contracts and proofs cite. Nobody has to believe these.
pub mod inside
