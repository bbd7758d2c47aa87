use Rattle.std.proofs.lemmas.List.{drop_more}
use Rattle.tt_search.specs.declared.tree.edges.Edge.{Edge}
use Rattle.tt_search.proofs.tree.numbers.are_fresh.Goals as goal

abbrev first : Edge
first = record { code = 0 }

pub loop-edge-preserved : goal.loop-edge-preserved
loop-edge-preserved c = record {
  rest = λ behind. c.loop-edge.invariant.rest
      (rw (drop_more c.args.edges.now c.loop-edge.edge-index first c.loop-edge-test.true)
      (c.is_fresh.ensures c.if-not-is_fresh.false, behind));
}
