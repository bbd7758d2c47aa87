use Rattle.std.proofs.Common.{sym, ◌∙◌}
use Rattle.tt_sgf.specs.MachineWords.{bit_in}
use Rattle.tt_board.proofs.PlaneLemmas.{entries_alike, neither}
use Rattle.tt_board.proofs.colouring.Colouring.differing_points.Goals as goal

pub returns : goal.returns
returns c = λ q small none.
    let i = c.self.inside in let j = c.other.inside in
    let both = neither (bit_in c.xor.result.words q) (bit_in c.xor-2.result.words q) (sym (c.or.ensures q small) ∙ none) in
    entries_alike i.count j.count i.black.words i.white.words j.black.words j.white.words _ _ c.self.view_is c.other.view_is c.self.invariant c.other.invariant q small
    ((c.xor.ensures q small).0 both.0) ((c.xor-2.ensures q small).0 both.1)
