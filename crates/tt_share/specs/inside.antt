-- What private contracts and proofs cite. Nobody has to believe these.
pub mod Jobs
pub mod Results
pub mod Beginning
pub mod Workers
pub mod Gathering
pub mod Slots
pub mod Taking
pub mod Tallies
