-- What `score` makes of a game tree.
use Rattle.std.specs.Prelude.{◌≡◌, List, Ok, Err}
use Rattle.std.specs.declared.result.Result.{Result}
use Rattle.tt_sgf.specs.declared.nodes.Node.{Node}
use Rattle.tt_game.specs.declared.faults.GameFault.{GameFault}
use Rattle.tt_game.specs.declared.records.Record.{Record}
use Rattle.tt_game.specs.Faults.{code_of}
use Rattle.tt_game.specs.Records.{record_of}
use Rattle.tt_text.specs.declared.outcome.TreeOutcome.{TreeOutcome}
use Rattle.tt_text.specs.declared.outcome.TreeOutcome.TheVariants.{Scored, Refused}

-- a record's score, or the number of its refusal
abbrev pub record_outcome : Result Record GameFault → TreeOutcome
record_outcome (Ok r) = Scored r
record_outcome (Err e) = Refused (code_of e)

-- what `score` makes of a main line
abbrev pub Scores : List Node → TreeOutcome → Type 0
Scores nodes o = o ≡ record_outcome (record_of nodes)
