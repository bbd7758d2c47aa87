use Rattle.std.proofs.Common.{ap, ap₂, codes, ◌≡◌, ◌∙◌}
use Rattle.std.proofs.lemmas.Result.{IfOk-weaker}
use Rattle.clap.specs.Words.{app_of, new_app, with_rule}
use Rattle.clap.specs.Simple.{app_of_fields}
use Rattle.tsumego_show.specs.CommandLine.{show_app, with_version_word}
use Rattle.tsumego_show.proofs.arguments.parser.Goals as goal

pub returns : goal.returns
unfolding show_app
returns c =
    let plain_is : app_of c.version-plain.result ≡ with_version_word (new_app (codes "tsumego-show")) =
    ap app_of_fields c.version-plain.ensures ∙ ap with_version_word c.bare_parser.ensures in
    let one_is = c.in_ok-one.ensures.shape c.flag_option-mark.ensures.local ∙ ap₂ with_rule plain_is c.flag_option-mark.ensures.rule in
    let two_is = c.in_ok-two.ensures.shape c.plain_words-words.ensures.local ∙ ap₂ with_rule one_is c.plain_words-words.ensures.rule in
    let three_is = c.in_ok-three.ensures.shape c.flag_option-close.ensures.local ∙ ap₂ with_rule two_is c.flag_option-close.ensures.rule in
    let four_is = c.in_ok-four.ensures.shape c.flag_option-svg.ensures.local ∙ ap₂ with_rule three_is c.flag_option-svg.ensures.rule in
    let five_is = c.in_ok-five.ensures.shape c.flag_option-sgf.ensures.local ∙ ap₂ with_rule four_is c.flag_option-sgf.ensures.rule in
    IfOk-weaker c.arg-6.result _ _ (λ r h. h.shape c.depth_option-depth.ensures.local ∙ ap₂ with_rule five_is c.depth_option-depth.ensures.rule) c.arg-6.ensures
