-- What public contracts cite.
pub mod Checking
pub mod Headline
pub mod Laws
pub mod OtherLines
pub mod Reasons
pub mod Scoring
pub mod Solving
pub mod Trees
-- What private contracts and proofs cite. Nobody has to believe these.
pub mod inside
