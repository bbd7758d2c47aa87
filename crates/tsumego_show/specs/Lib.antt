-- What public contracts cite.
pub mod CommandLine
pub mod Shown
pub mod Writing
pub mod Written
