use Rattle.std.proofs.Common.{◌≡◌, ◌≤◌, length}
use Rattle.tsumego_show.specs.Written.{from_open}
use Rattle.tsumego_show.proofs.tree_bytes.from_first_parenthesis.Given as goal

abbrev pub invariant-loop-first : goal.invariant-loop-first
invariant-loop-first l = record {
  left : from_open l.rest ≡ from_open l.bytes;
  shorter : length l.rest ≤ length l.bytes;
}

abbrev pub decreases-loop-first : goal.decreases-loop-first
decreases-loop-first l = length l.rest
