use Rattle.std.proofs.Common.{rules, ◌≡◌, ◌+◌, ◌∷◌, [], Ok, length, arith, sym, ap, ◌∙◌}
use Rattle.std.proofs.lemmas.List.{nil_from_length}
use Rattle.std.proofs.lemmas.Result.{err_from_is_err_and}
use Rattle.tt_game.specs.Records.{apply_nodes, at_node, step_node}
use Rattle.tt_game.proofs.RecordLemmas.{run-nil, run-step, run-stop}
use Rattle.tt_game.proofs.records.apply_nodes.Goals as goal

pub returns-in_err-play_node : goal.returns-in_err-play_node
returns-in_err-play_node c =
    let p = err_from_is_err_and c.from_residual.result c.from_residual.ensures.1 in
    let e : c.loop-node.rest.now ≡ c.in-Some.node.now ∷ c.in-Some.behind.now = search rules in
    let k = c.loop-node.number in
    rw (p.1, p.2) (λ other. sym c.loop-node.invariant.all ∙ ap (apply_nodes k c.loop-node.last) e
    ∙ run-stop k c.loop-node.last c.in_err-play_node.field-0.0 c.in-Some.node.now c.in-Some.behind.now (c.in_err-play_node.ensures other))

pub loop-node-preserved : goal.loop-node-preserved
loop-node-preserved c =
    let e : c.loop-node.rest.now ≡ c.in-Some.node.now ∷ c.in-Some.behind.now = search rules in
    let k = c.loop-node.number in
    let s : step_node (at_node (k + 1) c.loop-node.last) c.in-Some.node.now ≡ Ok c.play_node.new.self = search rules in
    let l : length c.loop-node.rest.now ≡ length (c.in-Some.node.now ∷ c.in-Some.behind.now) = ap length e in
    let m = c.loop-node.invariant.most in
    record {
      all = sym (run-step k c.loop-node.last c.play_node.new.self c.in-Some.node.now c.in-Some.behind.now s) ∙ ap (apply_nodes k c.loop-node.last) (sym e) ∙ c.loop-node.invariant.all;
      most = omega (arith, l, m);
    }

pub returns : goal.returns
returns c =
    let e : c.loop-node.rest.now ≡ [] = nil_from_length c.loop-node.rest.now c.in_default.ensures.cases in
    let k = c.loop-node.number in
    sym c.loop-node.invariant.all ∙ ap (apply_nodes k c.loop-node.last) e ∙ run-nil k c.loop-node.last
