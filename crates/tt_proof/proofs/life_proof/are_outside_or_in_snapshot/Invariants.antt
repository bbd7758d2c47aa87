use Rattle.std.proofs.Common.{ℕ, ◌<◌, get_or, Contains}
use Rattle.tt_board.specs.Position.{Position}
use Rattle.tt_game.specs.Game.{history}
use Rattle.tt_proof.specs.BoardSetBounds.{MayContainBoard}
use Rattle.tt_proof.proofs.life_proof.are_outside_or_in_snapshot.Given as goal

abbrev pub invariant-loop-board : goal.invariant-loop-board
invariant-loop-board l =
    (k : ℕ) (d : Position) → k < l.board-index → MayContainBoard l.bound (get_or l.boards k d) → Contains (history l.snapshot.state) (get_or l.boards k d).points
