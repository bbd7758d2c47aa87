pub mod Endings
pub mod FirstLines
pub mod Refusals
