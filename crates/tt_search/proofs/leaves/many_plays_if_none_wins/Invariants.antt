use Rattle.std.proofs.Common.{◌≡◌, ◌≤◌, ◌-◌, ◌++◌, [], map, length}
use Rattle.tt_sgf.specs.Sizes.{point_count}
use Rattle.tt_game.specs.Turns.{legal_turns, turns_with_winners, turns_with_winners_from}
use Rattle.tt_search.specs.Growing.{leaf_with_winner}
use Rattle.tt_search.specs.inside.Edges.{edge_turns, edge_trees, AreFresh}
use Rattle.tt_search.specs.inside.Untried.{AreBelow}
use Rattle.tt_search.proofs.leaves.many_plays_if_none_wins.Given as goal

abbrev pub invariant-loop-p : goal.invariant-loop-p
invariant-loop-p l = record {
  frame : l.plays.frame ≡ l.initial.plays.frame;
  state : l.plays.state ≡ l.initial.plays.state;
  turns : edge_turns l.found ++ map (λ x. x.turn) (turns_with_winners_from l.initial.plays.frame l.initial.plays.state l.plays.from) ≡ legal_turns l.initial.plays.frame l.initial.plays.state;
  leaves : edge_trees l.found [] ++ map (λ x. leaf_with_winner x.winner) (turns_with_winners_from l.initial.plays.frame l.initial.plays.state l.plays.from)
      ≡ map (λ x. leaf_with_winner x.winner) (turns_with_winners l.initial.plays.frame l.initial.plays.state);
  fresh : AreFresh l.found;
  below : AreBelow l.plays.from l.found;
  few : length l.found ≤ l.plays.from;
  inside : l.plays.from ≤ point_count l.initial.plays.frame.size;
  low : l.plays.from ≤ 361;
}

abbrev pub decreases-loop-p : goal.decreases-loop-p
decreases-loop-p l = 361 - l.plays.from
