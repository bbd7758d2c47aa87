-- Whether two keys are one, as a table tests it.
use Rattle.std.specs.Prelude.{Bool}
use Rattle.tt_game.specs.declared.keys.Key.{Key}
use Rattle.tt_game.specs.contracts.keys.KeyPartialEq.TheImpl as key_eq

-- whether two keys are one: each field is compared
abbrev pub same_key : Key → Key → Bool
same_key = (key_eq.ghosts).eq
