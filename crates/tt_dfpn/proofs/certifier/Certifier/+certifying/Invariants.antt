use Rattle.std.proofs.Common.{◌≡◌, ◌≤◌, ◌+◌, ◌*◌}
use Rattle.tt_game.specs.Turns.{legal_turns}
use Rattle.tt_dfpn.specs.inside.Certifying.{AreFirstChildren}
use Rattle.tt_dfpn.proofs.certifier.Certifier.+certifying.Given as goal

-- each line behind a turn has less room
abbrev pub decreases-proof_after : goal.decreases-proof_after
decreases-proof_after g l = l.room * 8 + 8

abbrev pub decreases-go_ahead : goal.decreases-go_ahead
decreases-go_ahead g l = l.room * 8 + 9

abbrev pub decreases-proof_of_reply : goal.decreases-proof_of_reply
decreases-proof_of_reply g l = l.room * 8 + 10

abbrev pub decreases-certify : goal.decreases-certify
decreases-certify g l = l.room * 8 + 7

abbrev pub decreases-proof_by_visit : goal.decreases-proof_by_visit
decreases-proof_by_visit g l = l.room * 8 + 6

abbrev pub decreases-proof_by_advice : goal.decreases-proof_by_advice
decreases-proof_by_advice g l = l.room * 8 + 5

abbrev pub decreases-proof_by_reply : goal.decreases-proof_by_reply
decreases-proof_by_reply g l = l.room * 8 + 5

abbrev pub decreases-proof_by_turn : goal.decreases-proof_by_turn
decreases-proof_by_turn g l = l.room * 8 + 4

abbrev pub invariant-proof_by_advice-loop-refused : goal.invariant-proof_by_advice-loop-refused
invariant-proof_by_advice-loop-refused g l = record {
  same : l.line ≡ l.fn.line;
  fewer : l.self.visits.left ≤ l.fn.self.visits.left;
}

abbrev pub invariant-go_ahead-loop-other : goal.invariant-go_ahead-loop-other
invariant-go_ahead-loop-other g l = record {
  same : l.line ≡ l.fn.line;
  fewer : l.self.visits.left ≤ l.fn.self.visits.left;
}

abbrev pub invariant-proof_by_reply-loop-turn : goal.invariant-proof_by_reply-loop-turn
invariant-proof_by_reply-loop-turn g l = record {
  same : l.line ≡ l.fn.line;
  fewer : l.self.visits.left ≤ l.fn.self.visits.left;
  all : l.turn-items ≡ legal_turns l.fn.line.frame l.fn.line.state;
  first : AreFirstChildren l.fn.line.frame l.fn.line.state l.fn.room l.turn-index l.children.items;
}
