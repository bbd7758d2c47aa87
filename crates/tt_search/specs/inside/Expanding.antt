-- The edges of a leaf that is expanded. For private contracts and proofs.
use Rattle.std.specs.Prelude.{◌≡◌, List, [], map}
use Rattle.tt_game.specs.declared.frame.Frame.{Frame}
use Rattle.tt_game.specs.Turns.{TurnWithWinner, turns_with_winners}
use Rattle.tt_game.specs.Game.{State}
use Rattle.tt_search.specs.inside.Edges.{edge_turns, edge_trees, grown_in}
use Rattle.tt_search.specs.Growing.{leaf_with_winner}
use Rattle.tt_search.specs.declared.tree.edges.Edge.{Edge}

-- an edge for each legal turn, in rising order, to a new leaf
pub record AreNewEdges (f : Frame) (s : State) (edges : List Edge) : Type 0 where
  pub none_grown : grown_in edges ≡ 0
  pub turns : edge_turns edges ≡ map (λ (x : TurnWithWinner). x.turn) (turns_with_winners f s)
  pub leaves : edge_trees edges [] ≡ map (λ (x : TurnWithWinner). leaf_with_winner x.winner) (turns_with_winners f s)
