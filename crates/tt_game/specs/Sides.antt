-- The words of the two sides, with which verdicts and certificates begin.
use Rattle.std.specs.Prelude.{ℕ, List, codes}
use Rattle.tt_game.specs.declared.frame.Side.{Side}
use Rattle.tt_game.specs.declared.frame.Side.TheVariants.{Attacker, Defender}

-- what is said where this side wins
abbrev pub verdict_word : Side → List ℕ
verdict_word Attacker = codes "killed"
verdict_word Defender = codes "lives"
