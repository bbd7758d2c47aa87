use Rattle.std.proofs.Common.{◌≡◌, ◌++◌}
use Rattle.std.specs.Vec.Iter.{into_iter_items}
use Rattle.tt_proof.specs.EndRules.{at_win}
use Rattle.tt_proof.specs.inside.WonChildren.{AllWon}
use Rattle.tt_proof.proofs.proven.life_proofs_of.Given as goal

abbrev pub invariant-loop-turn : goal.invariant-loop-turn
invariant-loop-turn l = record {
  order : l.yielded ++ into_iter_items l.turn-iterator ≡ l.fn.children.items;
  same : l.made.items ≡ l.yielded;
  won : AllWon at_win l.yielded;
}
