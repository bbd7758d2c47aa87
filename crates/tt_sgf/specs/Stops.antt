-- At which byte the reading of a game tree stops.
use Rattle.std.specs.Prelude.{ℕ, ◌+◌, ◌<◌, ◌≤◌, List, ◌++◌, length, take}
use Rattle.tt_sgf.specs.Grammar.{FirstTreeEndsAt, GameTree}

-- the bytes are the beginning of some text that has a game tree at its first `(`
abbrev pub BeginsSomeTree : List ℕ → Type 0
BeginsSomeTree bytes = (more : List ℕ) × (count : ℕ) × (t : GameTree) × FirstTreeEndsAt (bytes ++ more) count t

-- so many bytes begin such a text, and no such text has the byte behind them there; all bytes where each begins one
pub record StopsAt (bytes : List ℕ) (index : ℕ) : Type 0 where
  pub within : index ≤ length bytes
  pub before : BeginsSomeTree (take index bytes)
  pub stops : index < length bytes → BeginsSomeTree (take (index + 1) bytes) → ⊥
