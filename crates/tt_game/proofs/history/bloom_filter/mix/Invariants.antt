use Rattle.std.proofs.Common.{◌≡◌, drop}
use Rattle.tt_game.specs.Mixing.{mix}
use Rattle.tt_game.proofs.history.bloom_filter.mix.Given as goal

abbrev pub invariant-loop-word : goal.invariant-loop-word
invariant-loop-word l = mix l.sum (drop l.word-index l.words) ≡ mix l.fn.start l.words
