use Rattle.std.proofs.Common.{◌≡◌}
use Rattle.tt_board.proofs.MakeLemmas.{Taking}
use Rattle.tt_board.proofs.counted.chains.Chains.play_with_captures.Given as goal

abbrev pub invariant-loop-name : goal.invariant-loop-name
invariant-loop-name l = record {
  size : l.self.size ≡ l.initial.self.size;
  taking : Taking l.initial.self.counts.names l.initial.self.points l.name-items l.name-index l.self.counts.names l.self.points;
}
