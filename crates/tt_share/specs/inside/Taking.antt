-- Tokens that a view has taken in. Only private contracts cite these.
use Rattle.std.specs.Prelude.{ℕ, List}
use Rattle.boxcar.specs.Table.{Shelves}
use Rattle.tt_share.specs.Log.{TokenState}

-- the log, the tokens, the oldest first, and for how many more there is room
pub record Holding : Type 0 where
  pub log : Shelves
  pub tokens : List TokenState
  pub room : ℕ
