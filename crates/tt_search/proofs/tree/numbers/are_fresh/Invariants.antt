use Rattle.std.proofs.Common.{drop}
use Rattle.tt_search.specs.inside.Edges.{AreFresh}
use Rattle.tt_search.proofs.tree.numbers.are_fresh.Given as goal

abbrev pub invariant-loop-edge : goal.invariant-loop-edge
invariant-loop-edge l = record { rest : AreFresh (drop l.edge-index l.edges) → AreFresh l.edges }
