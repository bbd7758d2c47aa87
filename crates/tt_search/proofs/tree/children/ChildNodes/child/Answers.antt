use Rattle.std.proofs.Common.{sym, arith}
use Rattle.tt_search.specs.inside.ChildNodes.{child_of}
use Rattle.tt_search.proofs.ChildSteps.{rank_within_nodes, child_node, fresh_child, won_child}
use Rattle.tt_search.proofs.tree.children.ChildNodes.child.Goals as goal

pub index-requires : goal.index-requires
index-requires c =
    let x = c.args.self.now in
    omega (
      arith,
      rank_within_nodes x c.args.index c.args.rank c.at.result (child_of x c.args.index) c.requires.there c.at.ensures c.requires.whole c.in-Grown.ensures c.requires.rank,
      x.grown.ok.0,
    )

pub returns-in-Fresh : goal.returns-in-Fresh
returns-in-Fresh c =
    let x = c.args.self.now in
    sym (fresh_child x.edges x.grown.items c.args.index c.at.result c.requires.there c.at.ensures (sym c.in-Fresh.ensures))

pub returns-in-Won : goal.returns-in-Won
returns-in-Won c =
    let x = c.args.self.now in
    sym (won_child x.edges x.grown.items c.args.index c.at.result c.requires.there c.at.ensures c.in-Won.side (sym c.in-Won.ensures))

pub returns-in-Grown : goal.returns-in-Grown
returns-in-Grown c =
    let node = c.index.result.now in
    sym (child_node c.args.self.now c.args.index c.args.rank c.at.result node c.requires.there c.at.ensures c.requires.whole c.in-Grown.ensures c.requires.rank c.index.ensures)
