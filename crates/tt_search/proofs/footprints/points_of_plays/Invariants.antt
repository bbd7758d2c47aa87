use Rattle.tt_game.specs.declared.frame.Frame.{Frame}
use Rattle.tt_game.specs.Game.{State}
use Rattle.tt_game.specs.laws.TurnLaws.{EachIsLegal}
use Rattle.tt_proof.specs.KeptFootprints.{AreLegalPlays}
use Rattle.tt_search.specs.inside.Edges.{edge_turns}
use Rattle.tt_search.proofs.footprints.points_of_plays.Given as goal

abbrev pub invariant-loop-edge : goal.invariant-loop-edge
invariant-loop-edge l = (f : Frame) (s : State) → EachIsLegal f s (edge_turns l.edges) → AreLegalPlays f s l.points
