-- What public contracts cite.
pub mod Bytes
pub mod Grammar
pub mod Values
pub mod Sizes
pub mod Points
pub mod PointLists
pub mod MachineWords
pub mod Faults
pub mod Stops
-- What crates above cite: laws of the definitions, with their proofs. Nobody has to believe these.
pub mod laws
-- What private contracts and proofs cite. Nobody has to believe these.
pub mod inside
