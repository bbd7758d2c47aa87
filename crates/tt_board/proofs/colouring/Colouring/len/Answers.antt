use Rattle.std.proofs.Common.{sym}
use Rattle.tt_board.proofs.PlaneLemmas.{count_is}
use Rattle.tt_board.proofs.colouring.Colouring.len.Goals as goal

pub returns-clause-value : goal.returns-clause-value
returns-clause-value c = sym (count_is c.self.inside.count c.self.inside.black.words c.self.inside.white.words _ c.self.view_is)
