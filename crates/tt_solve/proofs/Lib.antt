pub mod ProofCertificates
pub mod ProofSolutions
pub mod Totals
pub mod TurnValues
