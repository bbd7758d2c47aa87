use Rattle.std.proofs.Common.{◌∙◌}
use Rattle.tt_sgf.specs.MachineWords.{bit_in}
use Rattle.tt_marks.proofs.SetLemmas.{empties_are}
use Rattle.tt_marks.proofs.regions.empties.Goals as goal

pub returns : goal.returns
returns c = rw c.size.ensures.value at c.set_of.ensures ∙ empties_are c.args.board.now.size c.args.board.now.points (bit_in c.empty_points.result.words) c.empty_points.ensures.those
