use Rattle.std.proofs.Common.{◌≡◌, ◌+◌, [], length, sym, ap, ◌∙◌, arith}
use Rattle.std.proofs.lemmas.List.{length_push}
use Rattle.tt_sgf.specs.declared.size.TheConstants.{MOST_POINTS}
use Rattle.tt_game.specs.Game.{opponent}
use Rattle.tt_search.specs.inside.Children.{children_of}
use Rattle.tt_search.specs.inside.Choices.{node_with}
use Rattle.tt_search.specs.inside.Edges.{edge_trees}
use Rattle.tt_search.specs.Numbers.{child_numbers, least, capped_sum}
use Rattle.tt_search.specs.inside.ChildNodes.{choices_with}
use Rattle.tt_search.specs.inside.Untried.{fresh_edge, plays_and_pass}
use Rattle.tt_search.proofs.Changed.{pair_of}
use Rattle.tt_search.proofs.FreshRows.{ones, least_ones, capped_ones}
use Rattle.tt_search.proofs.leaves.untried_node.Goals as goal

pub invariant_of-result : goal.invariant_of-result
invariant_of-result c =
    let es = plays_and_pass c.args.plays in
    let x = choices_with c.args.mover es [] in
    let own : 1 ≡ least (child_numbers c.args.mover (children_of (edge_trees es []))) = sym (ap least (ones c.args.mover es [] c.requires.fresh) ∙ least_ones (length es) c.requires.some) in
    let all : capped_sum (child_numbers (opponent c.args.mover) (children_of (edge_trees es []))) ≡ length es =
    ap capped_sum (ones (opponent c.args.mover) es [] c.requires.fresh) ∙ capped_ones (length es) (omega (arith, c.requires.few)) in
    let many : c.from.result + 1 ≡ length es = omega (arith, c.from.ensures, c.len.ensures, length_push c.args.plays (fresh_edge MOST_POINTS)) in
    (c.proof_and_disproof-proof.ensures (node_with x) (pair_of x 1 (c.from.result + 1) own (many ∙ sym all)), c.requires)
