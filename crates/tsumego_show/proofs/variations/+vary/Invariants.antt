use Rattle.std.proofs.Common.{◌≡◌}
use Rattle.tsumego_show.proofs.variations.+vary.Given as goal

abbrev pub invariant-put_replies-loop-turn : goal.invariant-put_replies-loop-turn
invariant-put_replies-loop-turn l = l.line ≡ l.fn.line
