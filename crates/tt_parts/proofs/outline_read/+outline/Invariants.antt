use Rattle.std.proofs.Common.{◌≡◌, ◌+◌, ◌*◌, ◌-◌, ◌≤◌, List, map}
use Rattle.tt_sgf.specs.declared.size.TheConstants.{MOST_POINTS}
use Rattle.tt_proof.specs.Strategy.{Strategy, depth}
use Rattle.tt_parts.proofs.OutlineReadLemmas.{Walked}
use Rattle.tt_parts.proofs.outline_read.+outline.Given as goal

abbrev pub decreases-read_outline : goal.decreases-read_outline
decreases-read_outline l = 4 * l.left + 3

abbrev pub decreases-read_named_outline : goal.decreases-read_named_outline
decreases-read_named_outline l = 4 * l.left + 2

abbrev pub decreases-read_pick : goal.decreases-read_pick
decreases-read_pick l = 4 * l.left + 1

abbrev pub decreases-read_reply : goal.decreases-read_reply
decreases-read_reply l = 4 * l.left + 1

abbrev pub decreases-read_branches : goal.decreases-read_branches
decreases-read_branches l = 4 * l.left

abbrev pub invariant-read_branches-loop-rest : goal.invariant-read_branches-loop-rest
invariant-read_branches-loop-rest l = record {
  walked : (us : List Strategy) → map depth us ≡ l.fn.depths.items → Walked l.size us l.least l.bytes l.now l.list.items l.most l.depths.items;
  shallow : l.most ≤ l.left;
  small : l.least ≤ MOST_POINTS + 1;
}

abbrev pub decreases-read_branches-loop-rest : goal.decreases-read_branches-loop-rest
decreases-read_branches-loop-rest l = MOST_POINTS + 2 - l.least
