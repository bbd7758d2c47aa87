-- What private contracts and proofs cite. Nobody has to believe these.
pub mod Reading
pub mod Places
pub mod ShortForms
pub mod ValueRows
