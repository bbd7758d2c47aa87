use Rattle.std.proofs.Common.{◌≡◌, drop}
use Rattle.tt_proof.specs.ProofClaim.{AreReplyChildren, turns_of}
use Rattle.tt_tests.proofs.proof_tests.are_children.Given as goal

abbrev pub invariant-loop-index : goal.invariant-loop-index
invariant-loop-index l = record {
  same : l.line ≡ l.fn.line;
  turns : turns_of (drop l.index l.children) ≡ drop l.index l.turns → turns_of l.children ≡ l.turns;
  children : AreReplyChildren l.fn.line.frame l.fn.line.state (drop l.index l.children) → AreReplyChildren l.fn.line.frame l.fn.line.state l.children;
}
