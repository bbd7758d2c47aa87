-- Partial trees (L. V. Allis, "Searching for Solutions in Games and Artificial Intelligence", 1994, chapter 2): what a
-- search has seen of a game so far.
use Rattle.std.specs.Prelude.{List}
use Rattle.tt_game.specs.declared.frame.Side.{Side}
use Rattle.tt_game.specs.declared.turns.Turn.{Turn}
use Rattle.tt_proof.specs.Strategy.{Strategy}

mutual
  -- a node: a leaf that nothing is known of, a leaf at which the side has won, a leaf closed by a strategy that wins for
  -- the side, or an expanded node with the side to move, its legal turns and a child for each of them
  pub data PartialTree : Type 0 where
    fresh : PartialTree
    won : Side → PartialTree
    closed : Side → Strategy → PartialTree
    expanded : Side → List Turn → Children → PartialTree

  pub data Children : Type 0 where
    no_more : Children
    more : PartialTree → Children → Children
