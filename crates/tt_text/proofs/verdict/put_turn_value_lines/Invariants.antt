use Rattle.std.proofs.Common.{◌≡◌, ◌++◌, All, take}
use Rattle.tt_proof.specs.Strategy.{IsTurnOnBoardOfSize}
use Rattle.tt_text.specs.Solving.{turn_value_lines}
use Rattle.tt_text.proofs.verdict.put_turn_value_lines.Given as goal

abbrev pub invariant-loop-turn : goal.invariant-loop-turn
invariant-loop-turn l = record {
  on_board : All (λ e. IsTurnOnBoardOfSize l.size e.0) l.values;
  written : l.out.items ≡ l.fn.out.items ++ turn_value_lines l.size (take l.turn-index l.values);
}
