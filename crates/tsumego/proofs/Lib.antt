pub mod Breaks
pub mod Getters
pub mod Headline
pub mod Limit
pub mod OtherLines
pub mod TreeByTree
