-- What public contracts cite.
pub mod Answers
pub mod Table
pub mod Log
pub mod Desk
pub mod Seats
pub mod DeskLaw
-- What private contracts and proofs cite. Nobody has to believe these.
pub mod inside
