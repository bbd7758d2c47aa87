-- What crates above cite besides: laws of the definitions, with their proofs, and what their own proofs need. Nobody has to believe these.
pub mod StrategyCode
pub mod PlayedBoards
