use Rattle.std.proofs.Common.{◌≡◌, ◌≤◌, length}
use Rattle.tsumego_show.specs.Written.{has_triangles_alone}
use Rattle.tsumego_show.proofs.marking.unsquared_triangle_node.Given as goal

abbrev pub invariant-loop-node : goal.invariant-loop-node
invariant-loop-node l = record {
  all : has_triangles_alone l.rest ≡ has_triangles_alone l.nodes;
  most : length l.rest ≤ length l.nodes;
}

abbrev pub decreases-loop-node : goal.decreases-loop-node
decreases-loop-node l = length l.rest
