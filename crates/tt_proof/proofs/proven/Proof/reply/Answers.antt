use Rattle.std.proofs.Common.{◌≡◌, List, sym, subst}
use Rattle.tt_game.specs.Turns.{legal_turns}
use Rattle.tt_game.specs.declared.turns.Turn.{Turn}
use Rattle.tt_proof.specs.EndRules.{at_win}
use Rattle.tt_proof.specs.ProofClaim.{ProofClaim, AreReplyChildren, turns_of}
use Rattle.tt_proof.proofs.ProvenLemmas.{won_reply}
use Rattle.tt_proof.proofs.proven.Proof.reply.Goals as goal

pub invariant_of-result : goal.invariant_of-result
invariant_of-result c =
    let f = c.args.line.now.frame in
    let s = c.args.line.now.state in
    let made = c.in_ok-life_proof.ensures in
    let same = c.in_ok-children.ensures.same in
    rw made.2
    (won_reply at_win f s _ _ _ _ made.0.0 made.0.1 made.1 c.requires.nobody
    (subst (λ (es : List (Turn × ProofClaim)). turns_of es ≡ legal_turns f s) (sym same) c.requires.turns)
    (subst (λ (es : List (Turn × ProofClaim)). AreReplyChildren f s es) (sym same) c.requires.children) c.in_ok-children.ensures.won)
