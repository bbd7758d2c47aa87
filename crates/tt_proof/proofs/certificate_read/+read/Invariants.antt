use Rattle.std.proofs.Common.{◌+◌, ◌*◌, ◌-◌, ◌≤◌}
use Rattle.tt_sgf.specs.declared.size.TheConstants.{MOST_POINTS}
use Rattle.tt_proof.proofs.EntryLemmas.{Walked}
use Rattle.tt_proof.proofs.certificate_read.+read.Given as goal

abbrev pub decreases-read_strategy : goal.decreases-read_strategy
decreases-read_strategy l = 3 * l.left + 2

abbrev pub decreases-read_pick : goal.decreases-read_pick
decreases-read_pick l = 3 * l.left + 1

abbrev pub decreases-read_reply : goal.decreases-read_reply
decreases-read_reply l = 3 * l.left + 1

abbrev pub decreases-read_entries : goal.decreases-read_entries
decreases-read_entries l = 3 * l.left

abbrev pub invariant-read_entries-loop-rest : goal.invariant-read_entries-loop-rest
invariant-read_entries-loop-rest l = record {
  walked : Walked l.size l.left l.bytes l.least l.now l.list.items;
  small : l.least ≤ MOST_POINTS + 1;
}

abbrev pub decreases-read_entries-loop-rest : goal.decreases-read_entries-loop-rest
decreases-read_entries-loop-rest l = MOST_POINTS + 2 - l.least
