use Rattle.std.proofs.Common.{ap, ap₂, codes, ◌≡◌, ◌∙◌}
use Rattle.clap.specs.Words.{App, app_of, new_app, with_subcommand}
use Rattle.clap.specs.Simple.{app_of_fields}
use Rattle.std.proofs.lemmas.Result.{IfOk-weaker}
use Rattle.tsumego.specs.CommandLine.{with_required_subcommand, with_version_flag, tsumego_app}
use Rattle.tsumego.proofs.arguments.parser.Goals as goal

pub returns : goal.returns
unfolding tsumego_app
returns c =
    let plain_is : app_of c.version-plain.result ≡ with_version_flag (new_app (codes "tsumego")) =
    ap app_of_fields c.version-plain.ensures ∙ ap with_version_flag c.bare_parser.ensures.app in
    let top_is : app_of c.subcommand_required-top.result ≡ with_required_subcommand (with_version_flag (new_app (codes "tsumego"))) =
    ap app_of_fields c.subcommand_required-top.ensures ∙ ap with_required_subcommand plain_is in
    let one_is = c.in_ok-subcommand.ensures.shape c.bare_parser-score.ensures.local
    ∙ ap₂ with_subcommand top_is (ap (λ (a : App). a.top) c.bare_parser-score.ensures.app) in
    let two_is = c.in_ok-two.ensures.shape c.in_ok-check.ensures.local
    ∙ ap₂ with_subcommand one_is (ap (λ (a : App). a.top) c.in_ok-check.ensures.shape) in
    IfOk-weaker c.subcommand-3.result _ _ (λ r h. h.shape c.in_ok-solve.ensures.local
    ∙ ap₂ with_subcommand two_is (ap (λ (a : App). a.top) c.in_ok-solve.ensures.shape)) c.subcommand-3.ensures
