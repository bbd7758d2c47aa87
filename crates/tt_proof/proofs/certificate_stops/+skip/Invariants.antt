use Rattle.std.proofs.Common.{◌+◌, ◌*◌, ◌-◌, ◌≤◌}
use Rattle.tt_sgf.specs.declared.size.TheConstants.{MOST_POINTS}
use Rattle.tt_proof.proofs.StopLemmas.{SkippedTo}
use Rattle.tt_proof.proofs.certificate_stops.+skip.Given as goal

abbrev pub decreases-skip_tree : goal.decreases-skip_tree
decreases-skip_tree l = 2 * l.left + 1

abbrev pub decreases-skip_pick : goal.decreases-skip_pick
decreases-skip_pick l = 2 * l.left

abbrev pub decreases-skip_reply : goal.decreases-skip_reply
decreases-skip_reply l = 2 * l.left

abbrev pub invariant-skip_reply-loop-rest : goal.invariant-skip_reply-loop-rest
invariant-skip_reply-loop-rest l = record {
  skipped : SkippedTo l.size l.left l.bytes l.least l.now;
  small : l.least ≤ MOST_POINTS + 1;
}

abbrev pub decreases-skip_reply-loop-rest : goal.decreases-skip_reply-loop-rest
decreases-skip_reply-loop-rest l = MOST_POINTS + 2 - l.least
