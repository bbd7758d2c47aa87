-- Strategies: what a side plays, and how it answers each turn of the other side.
use Rattle.std.specs.Prelude.{ℕ, ◌+◌, ◌≤◌, max, List, [], ◌∷◌}
use Rattle.tt_sgf.specs.declared.size.Size.{Size}
use Rattle.tt_game.specs.declared.turns.Turn.{Turn}
pub use Rattle.tt_game.specs.Turns.{IsTurnOnBoardOfSize, turn_number_on_size}
use Rattle.tt_proof.specs.declared.tree.Tree.{Tree, fold-Tree}
use Rattle.tt_proof.specs.declared.tree.Tree.TheOpen as layer

mutual
  -- nothing more to play; a turn, and how it goes on; or an answer to each turn of the other side
  pub data Strategy : Type 0 where
    done : Strategy
    pick : Turn → Strategy → Strategy
    reply : Entries → Strategy

  -- turns of the other side, each with how it goes on
  pub data Entries : Type 0 where
    none : Entries
    entry : Turn → Strategy → Entries → Entries

abbrev mutual
  -- how many turns the longest way down has
  pub depth : Strategy → ℕ
  depth done = 0
  depth (pick t u) = depth u + 1
  depth (reply es) = depth_of_entries es

  pub depth_of_entries : Entries → ℕ
  depth_of_entries none = 0
  depth_of_entries (entry t u es) = max (depth u + 1) (depth_of_entries es)

abbrev mutual
  -- the turns lie on the board, and those of each reply rise by their numbers
  pub IsInOrder : Size → Strategy → Type 0
  IsInOrder size done = Unit {0}
  IsInOrder size (pick t u) = IsTurnOnBoardOfSize size t × IsInOrder size u
  IsInOrder size (reply es) = AreInOrder size 0 es

  -- so are the entries, and none has a number below the least
  pub AreInOrder : Size → ℕ → Entries → Type 0
  AreInOrder size least none = Unit {0}
  AreInOrder size least (entry t u es) =
      (least ≤ turn_number_on_size size t) × IsTurnOnBoardOfSize size t × IsInOrder size u × AreInOrder size (turn_number_on_size size t + 1) es

abbrev pub entries_of : List (Turn × Strategy) → Entries
entries_of [] = none
entries_of (e ∷ es) = entry e.0 e.1 (entries_of es)

abbrev pub strategy_of_layer : layer.Tree-F Strategy → Strategy
strategy_of_layer layer.Done = done
strategy_of_layer (layer.Pick t b) = pick t b.value
strategy_of_layer (layer.Reply b) = reply (entries_of b.value.items)

-- the strategy that a tree is, whatever memory it lies in
unfoldable pub strategy_of : Tree → Strategy
strategy_of = fold-Tree Strategy strategy_of_layer

-- the entries that the list of a `Reply` is
abbrev pub entries_of_reply : List (Turn × Tree) → Entries
entries_of_reply [] = none
entries_of_reply (e ∷ es) = entry e.0 (strategy_of e.1) (entries_of_reply es)
