-- What public contracts cite.
pub mod Strategy
pub mod Nodes
pub mod EndRules
pub mod Wins
pub mod Footprints
pub mod BoardSetBounds
pub mod KeptFootprints
pub mod StrategyLaws
pub mod ProofClaim
pub mod Rejections
pub mod CertificateText
pub mod CertificateFaults
pub mod CertificateStops
-- What crates above cite besides: laws of the definitions, with their proofs, and what their own proofs need. Nobody has to believe these.
pub mod laws
-- What private contracts and proofs cite. Nobody has to believe these.
pub mod inside
