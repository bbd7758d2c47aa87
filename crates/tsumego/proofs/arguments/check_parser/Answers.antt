use Rattle.std.proofs.Common.{ap₂, ◌∙◌}
use Rattle.clap.specs.Words.{with_rule}
use Rattle.std.proofs.lemmas.Result.{IfOk-weaker}
use Rattle.tsumego.specs.CommandLine.{check_app}
use Rattle.tsumego.proofs.Getters.{none_global}
use Rattle.tsumego.proofs.arguments.check_parser.Goals as goal

pub returns-clause-shape : goal.returns-clause-shape
unfolding check_app
returns-clause-shape c =
    IfOk-weaker c.arg.result _ _ (λ r h. h.shape c.flag_option.ensures.local ∙ ap₂ with_rule c.bare_parser.ensures.app c.flag_option.ensures.rule) c.arg.ensures

pub returns-clause-local : goal.returns-clause-local
returns-clause-local c =
    IfOk-weaker c.arg.result _ _ (λ r h. none_global _ _ _ h.globals c.bare_parser.ensures.local c.flag_option.ensures.local) c.arg.ensures
