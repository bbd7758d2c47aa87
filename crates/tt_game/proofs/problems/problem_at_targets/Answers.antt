use Rattle.std.proofs.Common.{rules, ◌≡◌, ◌+◌, ◌∷◌, [], true, false, Ok, length, arith, MatchResult, sym, ap, subst, ◌∙◌}
use Rattle.std.specs.declared.result.Result.{Result}
use Rattle.std.proofs.lemmas.List.{nil_from_length}
use Rattle.std.proofs.lemmas.Result.{err_from_is_err_and}
use Rattle.tt_game.specs.declared.faults.GameFault.{GameFault}
use Rattle.tt_game.specs.Line.{LineWithUndo}
use Rattle.tt_game.specs.Nodes.{has, TR}
use Rattle.tt_game.specs.Records.{at_node, step_node, IsErrorUnlessNoMemory}
use Rattle.tt_game.specs.Problems.{problem_at_node, problem_at_targets}
use Rattle.tt_game.proofs.ProblemLemmas.{problem-nil, problem-stop, problem-step, problem-here}
use Rattle.tt_game.proofs.problems.problem_at_targets.Goals as goal

pub returns-in_err-play_node : goal.returns-in_err-play_node
returns-in_err-play_node c =
    let p = err_from_is_err_and c.from_residual.result c.from_residual.ensures.1 in
    let e : c.loop-node.rest.now ≡ c.in-Some.node.now ∷ c.in-Some.behind.now = search rules in
    let k = c.loop-node.number in
    rw (p.1, p.2) (λ other. sym c.loop-node.invariant.all ∙ ap (problem_at_targets k c.loop-node.last) e
    ∙ problem-stop k c.loop-node.last c.in_err-play_node.field-0.0 c.in-Some.node.now c.in-Some.behind.now (c.in_err-play_node.ensures other))

pub loop-node-preserved : goal.loop-node-preserved
loop-node-preserved c =
    let e : c.loop-node.rest.now ≡ c.in-Some.node.now ∷ c.in-Some.behind.now = search rules in
    let k = c.loop-node.number in
    let s : step_node (at_node (k + 1) c.loop-node.last) c.in-Some.node.now ≡ Ok c.play_node.new.self = search rules in
    let off : has TR c.in-Some.node.now ≡ false = search rules in
    let l : length c.loop-node.rest.now ≡ length (c.in-Some.node.now ∷ c.in-Some.behind.now) = ap length e in
    let m = c.loop-node.invariant.most in
    record {
      all = sym (problem-step k c.loop-node.last c.play_node.new.self c.in-Some.node.now c.in-Some.behind.now s off) ∙ ap (problem_at_targets k c.loop-node.last) (sym e) ∙ c.loop-node.invariant.all;
      most = omega (arith, l, m);
    }

pub returns-then-has_value : goal.returns-then-has_value
returns-then-has_value c =
    let e : c.loop-node.rest.now ≡ c.in-Some.node.now ∷ c.in-Some.behind.now = search rules in
    let k = c.loop-node.number in
    let s : step_node (at_node (k + 1) c.loop-node.last) c.in-Some.node.now ≡ Ok c.play_node.new.self = search rules in
    let on : has TR c.in-Some.node.now ≡ true = search rules in
    let t = c.play_node.new.self in let n = c.in-Some.node.now in
    let all : problem_at_node t n ≡ problem_at_targets 0 c.args.replay c.args.nodes.now =
    sym (problem-here k c.loop-node.last t n c.in-Some.behind.now s on) ∙ ap (problem_at_targets k c.loop-node.last) (sym e) ∙ c.loop-node.invariant.all in
    subst (λ (want : Result LineWithUndo GameFault). MatchResult c.problem_at_node.result (λ l. want ≡ Ok l) (λ f. IsErrorUnlessNoMemory f want)) all c.problem_at_node.ensures

pub returns : goal.returns
returns c = λ _.
    let e : c.loop-node.rest.now ≡ [] = nil_from_length c.loop-node.rest.now c.in_default.ensures.cases in
    let k = c.loop-node.number in
    sym c.loop-node.invariant.all ∙ ap (problem_at_targets k c.loop-node.last) e ∙ problem-nil k c.loop-node.last
