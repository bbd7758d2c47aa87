use Rattle.std.proofs.Common.{◌≡◌, ◌+◌, ◌-◌, ◌^◌, ◌≤◌, max, min, drop}
use Rattle.tt_proof.specs.Nodes.{nodes_of_entries}
use Rattle.tt_proof.specs.Strategy.{depth_of_entries, entries_of_reply}
use Rattle.tt_proof.proofs.measures.+measures.Given as goal

abbrev pub invariant-measures_of_replies-loop-child : goal.invariant-measures_of_replies-loop-child
invariant-measures_of_replies-loop-child l = record {
  most : l.most ≤ 2 ^ 16 - 1;
  count : l.count ≤ 2 ^ 64 - 1;
  levels : min (max l.most (depth_of_entries (entries_of_reply (drop l.child-index l.list)))) (2 ^ 16 - 1) ≡ min (depth_of_entries (entries_of_reply l.list)) (2 ^ 16 - 1);
  size : min (l.count + nodes_of_entries (entries_of_reply (drop l.child-index l.list))) (2 ^ 64 - 1) ≡ min (nodes_of_entries (entries_of_reply l.list) + 1) (2 ^ 64 - 1);
}
