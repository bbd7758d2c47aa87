-- What public contracts cite. `Decided` makes the test that `Play` counts and clears by, out of `Fill` and `ReachLaws`; all that
-- is known of it is that it is true exactly where there is a path.
pub mod Position
pub mod Near
pub mod Around
pub mod Reach
pub mod Fill
pub mod ReachLaws
pub mod Decided
pub mod Play
pub mod PlayKind
pub mod Stones
pub mod Score
pub mod Setup
pub mod BoardLaws
-- What crates above cite: laws of the definitions, with their proofs. Nobody has to believe these.
pub mod laws
-- What private contracts and proofs cite. Nobody has to believe these.
pub mod inside
