-- What private contracts and proofs cite. Nobody has to believe these.
pub mod Replaying
pub mod Collecting
pub mod CertificateReading
pub mod CertificateWalking
pub mod WonChildren
pub mod RisingHashes
pub mod SharedLists
