use Rattle.std.proofs.Common.{◌↔◌, drop}
use Rattle.tt_proof.specs.Strategy.{entries_of_reply}
use Rattle.tt_proof.specs.inside.Replaying.{HasEntry}
use Rattle.tt_proof.proofs.replays.has_turn.Given as goal

abbrev pub invariant-loop-entry : goal.invariant-loop-entry
invariant-loop-entry l =
    HasEntry (entries_of_reply l.list) l.turn ↔ HasEntry (entries_of_reply (drop l.entry-index l.list)) l.turn
