use Rattle.std.proofs.Common.{◌≡◌, take}
use Rattle.tt_game.specs.Turns.{legal_turns}
use Rattle.tt_solve.specs.Solutions.{AreTurnValues}
use Rattle.tt_solve.proofs.solving.Solver.values_of_turns.Given as goal

abbrev pub invariant-loop-turn : goal.invariant-loop-turn
invariant-loop-turn g l = record {
  all : l.turn-items ≡ legal_turns l.line.frame l.line.state;
  values : AreTurnValues l.line l.self.options.limits l.fn.total l.left (take l.turn-index l.turn-items) l.values.items;
}
