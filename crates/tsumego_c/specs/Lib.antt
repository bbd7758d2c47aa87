-- What public contracts cite.
pub mod Calls
pub mod First
pub mod Options
pub mod Refusals
