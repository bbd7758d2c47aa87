use Rattle.std.proofs.Common.{◌≡◌, ◌≤◌, ◌-◌}
use Rattle.tt_sgf.specs.Sizes.{point_count}
use Rattle.tt_game.specs.Turns.{turns_with_winners_from}
use Rattle.tt_game.proofs.plays.LegalPlays.next.Given as goal

abbrev pub invariant-loop-p : goal.invariant-loop-p
invariant-loop-p l = record {
  line : l.self-inside.line ≡ l.initial.self-inside.line;
  moves : l.self-inside.moves ≡ l.initial.self-inside.moves;
  same : turns_with_winners_from l.fn.self.frame l.fn.self.state l.fn.self.from ≡ turns_with_winners_from l.fn.self.frame l.fn.self.state l.self-inside.from;
  after : l.fn.self.from ≤ l.self-inside.from;
  inside : l.self-inside.from ≤ point_count l.fn.self.frame.size;
}

abbrev pub decreases-loop-p : goal.decreases-loop-p
decreases-loop-p l = 361 - l.self-inside.from
