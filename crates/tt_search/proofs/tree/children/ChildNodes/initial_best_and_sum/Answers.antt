use Rattle.std.proofs.Common.{◌∙◌, ◌<◌, length, ap, sym, arith}
use Rattle.tt_game.specs.Game.{opponent}
use Rattle.tt_search.specs.Numbers.{least, capped_sum}
use Rattle.tt_search.specs.MostProving.{first_least_index}
use Rattle.tt_search.specs.inside.Edges.{AreFresh}
use Rattle.tt_search.proofs.FreshRows.{ones, least_ones, first_ones, capped_ones}
use Rattle.tt_search.proofs.tree.children.ChildNodes.initial_best_and_sum.Goals as goal

pub returns-then-are_fresh-clause-index : goal.returns-then-are_fresh-clause-index
returns-then-are_fresh-clause-index c =
    let fresh : AreFresh c.args.self.now.edges × (0 < length c.args.self.now.edges) = rw (sym c.as_slice.ensures) (c.are_fresh.ensures c.if-are_fresh.true) in
    sym (ap first_least_index (ones c.args.mover c.args.self.now.edges c.args.self.now.grown.items fresh.0) ∙ first_ones (length c.args.self.now.edges) fresh.1)

pub returns-then-are_fresh-clause-least : goal.returns-then-are_fresh-clause-least
returns-then-are_fresh-clause-least c =
    let fresh : AreFresh c.args.self.now.edges × (0 < length c.args.self.now.edges) = rw (sym c.as_slice.ensures) (c.are_fresh.ensures c.if-are_fresh.true) in
    sym (ap least (ones c.args.mover c.args.self.now.edges c.args.self.now.grown.items fresh.0) ∙ least_ones (length c.args.self.now.edges) fresh.1)

pub returns-then-are_fresh-clause-sum : goal.returns-then-are_fresh-clause-sum
returns-then-are_fresh-clause-sum c =
    let fresh : AreFresh c.args.self.now.edges × (0 < length c.args.self.now.edges) = rw (sym c.as_slice.ensures) (c.are_fresh.ensures c.if-are_fresh.true) in
    let sum =
    ap capped_sum (ones (opponent c.args.mover) c.args.self.now.edges c.args.self.now.grown.items fresh.0)
    ∙ capped_ones (length c.args.self.now.edges) (omega (arith, c.requires.few)) in
    omega (arith, sum, c.len.ensures, ap length c.as_slice.ensures)
