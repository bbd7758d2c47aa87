use Rattle.std.proofs.Common.{◌≡◌, ◌++◌, IsTrue}
use Rattle.std.specs.Vec.Iter.{into_iter_items}
use Rattle.tt_game.specs.Game.{IsLegal}
use Rattle.tt_game.specs.declared.turns.Turn.{Turn}
use Rattle.tt_proof.specs.Strategy.{reply, entries_of}
use Rattle.tt_proof.specs.ProofClaim.{AreReplyChildren, trees_by_turn, turns_of}
use Rattle.tt_proof.specs.KeptFootprints.{IsFootprint}
use Rattle.tt_game.specs.laws.Members.{IsIn}
use Rattle.tt_proof.specs.EndRules.{at_win, at_win_or_life}
use Rattle.tt_proof.specs.inside.WonChildren.{AllWon}
use Rattle.tt_proof.proofs.life_proof.LifeProof.reply.Given as goal

abbrev pub invariant-loop-turn : goal.invariant-loop-turn
invariant-loop-turn l = record {
  order : l.yielded ++ into_iter_items l.turn-iterator ≡ l.fn.children.items;
  same : l.replies ≡ trees_by_turn l.yielded;
  won : AllWon at_win_or_life l.yielded;
  at_wins : IsTrue l.all_end_at_wins → AllWon at_win l.yielded;
  left : AreReplyChildren l.line.frame l.line.state (into_iter_items l.turn-iterator);
  legal : (t : Turn) → IsIn (turns_of (into_iter_items l.turn-iterator)) t → IsLegal l.line.frame l.line.state t;
  joined : IsFootprint l.line.frame l.line.state (reply (entries_of (trees_by_turn l.yielded))) l.footprint;
}
