-- What a command does with its input.
use Rattle.std.specs.Prelude.{◌≡◌, Bool, true, false, List}
use Rattle.tt_sgf.specs.declared.nodes.Node.{Node}
use Rattle.tt_solve.specs.declared.options.CertKind.{CertKind}
use Rattle.tt_solve.specs.declared.options.CertKind.TheVariants.{Unasked, Plain, Shared}
use Rattle.tt_text.specs.declared.outcome.TreeOutcome.{TreeOutcome}
use Rattle.tt_text.specs.Scoring.{Scores}
use Rattle.tt_text.specs.Solving.{Solves}
use Rattle.tsumego.specs.declared.request.Command.{Command}
use Rattle.tsumego.specs.declared.request.Command.TheVariants as commands
use Rattle.tsumego.specs.declared.task.InputTask.{InputTask}
use Rattle.tsumego.specs.declared.task.InputTask.TheVariants.{Trees, Check}
use Rattle.tsumego.specs.declared.task.TreeTask.{TreeTask}
use Rattle.tsumego.specs.declared.task.TreeTask.TheVariants.{Score, Solve}

-- the outcomes that the task gives to a main line
abbrev pub MakesOutcome : TreeTask → List Node → TreeOutcome → Type 0
MakesOutcome Score = Scores
MakesOutcome (Solve options) = Solves options

-- whether a certificate is written
abbrev pub asks_for_certificate : CertKind → Bool
asks_for_certificate Unasked = false
asks_for_certificate Plain = true
asks_for_certificate Shared = true

-- whether it may share parts
abbrev pub asks_for_shared_parts : CertKind → Bool
asks_for_shared_parts Unasked = false
asks_for_shared_parts Plain = false
asks_for_shared_parts Shared = true

-- what the command does with its input, with the options as they were given
abbrev pub IsTaskOf : Command → InputTask → Type 0
IsTaskOf commands.Score (Trees Score) = Unit {0}
IsTaskOf commands.Check (Check parts) = parts ≡ false
IsTaskOf commands.CheckParts (Check parts) = parts ≡ true
IsTaskOf (commands.Solve limits workers cert total dfpn parts turns progress) (Trees (Solve options)) =
    (options.limits ≡ limits) × (options.workers ≡ workers) × (options.total ≡ total) × (options.dfpn ≡ dfpn)
    × ((asks_for_certificate options.cert ≡ cert) × (asks_for_shared_parts options.cert ≡ parts)) × (options.turns ≡ turns)
IsTaskOf c task = ⊥
