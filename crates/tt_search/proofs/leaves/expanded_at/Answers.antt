use Rattle.std.proofs.Common.{rules, ◌≡◌, refl, ap, subst, ◌∙◌, length, arith}
use Rattle.std.specs.Prelude.{IfSome}
use Rattle.tt_game.specs.Turns.{turns_with_winners}
use Rattle.tt_game.specs.laws.TurnLaws.{length-legal_turns}
use Rattle.tt_search.specs.inside.Expanding.{AreNewEdges}
use Rattle.tt_search.specs.inside.Untried.{plays_and_pass}
use Rattle.tt_search.proofs.Indices.{length-turns_of}
use Rattle.tt_search.proofs.Successors.{expansion_of, turns_of-successors}
use Rattle.tt_search.proofs.leaves.expanded_at.Goals as goal

pub expanded_node-requires-clause-few : goal.expanded_node-requires-clause-few
expanded_node-requires-clause-few c =
    let f = c.args.line.now.frame in let s = c.args.line.now.state in
    let frame : c.restart.new.self.frame ≡ f = search rules in
    let state : c.restart.new.self.state ≡ s = search rules in
    let new : AreNewEdges f s c.in_ok-edges.edges = rw (frame, state) at c.in_ok-edges.ensures in
    let turns = new.turns ∙ turns_of-successors f s in
    omega (arith, length-turns_of c.in_ok-edges.edges, ap length turns, length-legal_turns f s)

pub returns-in-Some : goal.returns-in-Some
returns-in-Some c =
    let f = c.args.line.now.frame in let s = c.args.line.now.state in
    let frame : c.legal_plays-plays.result.frame ≡ f = search rules in
    let state : c.legal_plays-plays.result.state ≡ s = search rules in
    let there : AreNewEdges c.legal_plays-plays.result.frame c.legal_plays-plays.result.state (plays_and_pass c.in-Some.found) =
    subst (λ o. IfSome o (λ found. AreNewEdges c.legal_plays-plays.result.frame c.legal_plays-plays.result.state (plays_and_pass found))) c.in-Some.is c.many_plays_if_none_wins.ensures.edges in
    let new : AreNewEdges f s (plays_and_pass c.in-Some.found) = rw (frame, state) at there in
    c.untried_node.ensures ∙ expansion_of f s c.to_move.result (turns_with_winners f s) _ _ c.to_move.ensures refl new.turns new.leaves

pub returns : goal.returns
returns c =
    let f = c.args.line.now.frame in let s = c.args.line.now.state in
    let frame : c.restart.new.self.frame ≡ f = search rules in
    let state : c.restart.new.self.state ≡ s = search rules in
    let new : AreNewEdges f s c.in_ok-edges.edges = rw (frame, state) at c.in_ok-edges.ensures in
    c.expanded_node.ensures ∙ expansion_of f s c.to_move-2.result (turns_with_winners f s) _ _ c.to_move-2.ensures refl new.turns new.leaves
