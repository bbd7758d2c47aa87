use Rattle.std.proofs.Common.{◌≡◌, ◌≤◌, ◌-◌, ◌++◌, length, map}
use Rattle.tt_sgf.specs.Sizes.{point_count}
use Rattle.tt_game.specs.Turns.{TurnWithWinner, legal_turns, turns_with_winners_from}
use Rattle.tt_game.proofs.line.Line.turns.Given as goal

abbrev pub invariant-loop-p : goal.invariant-loop-p
invariant-loop-p l = record {
  frame : l.plays.frame ≡ l.self.frame;
  state : l.plays.state ≡ l.self.state;
  list : l.turns.items ++ map (λ (x : TurnWithWinner). x.turn) (turns_with_winners_from l.self.frame l.self.state l.plays.from) ≡ legal_turns l.self.frame l.self.state;
  few : length l.turns.items ≤ l.plays.from;
  inside : l.plays.from ≤ point_count l.self.frame.size;
}

abbrev pub decreases-loop-p : goal.decreases-loop-p
decreases-loop-p l = 361 - l.plays.from
