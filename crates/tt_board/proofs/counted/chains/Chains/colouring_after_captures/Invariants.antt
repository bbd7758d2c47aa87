use Rattle.tt_board.proofs.MakeLemmas.{Lifting}
use Rattle.tt_board.proofs.counted.chains.Chains.colouring_after_captures.Given as goal

abbrev pub invariant-loop-name : goal.invariant-loop-name
invariant-loop-name l = Lifting l.self.counts.names l.self.points l.name-items l.name-index l.points
