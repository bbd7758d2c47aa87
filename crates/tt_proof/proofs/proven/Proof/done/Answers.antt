use Rattle.std.proofs.Common.{rules}
use Rattle.tt_proof.specs.EndRules.{at_win}
use Rattle.tt_proof.proofs.ProvenLemmas.{won_done}
use Rattle.tt_proof.proofs.proven.Proof.done.Goals as goal

pub invariant_of-result : goal.invariant_of-result
invariant_of-result c =
    let made = c.in_ok-life_proof-in-Some.ensures in
    rw (made.2, made.1) (won_done at_win _ c.args.line.now.frame _ c.args.line.now.state _ made.0.0 made.0.1 (search rules))
