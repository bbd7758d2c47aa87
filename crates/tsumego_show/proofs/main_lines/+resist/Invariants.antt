use Rattle.std.proofs.Common.{◌≡◌}
use Rattle.tsumego_show.proofs.main_lines.+resist.Given as goal

abbrev pub invariant-best_reply-loop-turn : goal.invariant-best_reply-loop-turn
invariant-best_reply-loop-turn l = l.line ≡ l.fn.line
