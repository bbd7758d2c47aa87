use Rattle.std.proofs.Common.{ℕ, ◌<◌, get_or}
use Rattle.tt_board.specs.Position.{Position}
use Rattle.tt_game.specs.Line.{HasBoardInHistory}
use Rattle.tt_proof.proofs.board_set.BoardSet.all_in_history.Given as goal

abbrev pub invariant-loop-held : goal.invariant-loop-held
invariant-loop-held l = (k : ℕ) (d : Position) → k < l.held-index → HasBoardInHistory l.line.frame l.line.state (get_or l.self k d)
