use Rattle.std.proofs.Common.{◌↔◌, ◌-◌, Contains}
use Rattle.tt_board.specs.Position.{Colouring}
use Rattle.tt_proof.specs.KeptFootprints.{HaveFrameSize, board_of_colouring}
use Rattle.tt_proof.specs.inside.Collecting.{RepeatsBelow}
use Rattle.tt_proof.proofs.footprints.repeated_boards.Given as goal

abbrev pub invariant-loop-p : goal.invariant-loop-p
invariant-loop-p l = record {
  sized : HaveFrameSize l.line.frame l.needs;
  shown : (c : Colouring) → Contains l.needs (board_of_colouring l.line.frame c) ↔ RepeatsBelow l.line.frame l.line.state l.from c;
}

abbrev pub decreases-loop-p : goal.decreases-loop-p
decreases-loop-p l = 361 - l.from
