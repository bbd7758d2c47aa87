use Rattle.std.proofs.Common.{length, ap, ◌∙◌}
use Rattle.tt_board.specs.Setup.{length-placed}
use Rattle.tt_board.proofs.board.Board.set_up.Goals as goal

pub first_without_liberty-requires : goal.first_without_liberty-requires
first_without_liberty-requires c = ap length c.place_stones.ensures ∙ length-placed c.self.inside.size _ _ _ _

pub invariant_of-result : goal.invariant_of-result
invariant_of-result c = (ap length c.place_stones.ensures ∙ length-placed c.self.inside.size _ _ _ _, c.in_default.ensures)
