use Rattle.std.proofs.Common.{ap₂, codes, ◌≡◌, ◌∙◌}
use Rattle.clap.specs.Words.{app_of, new_app, with_rule}
use Rattle.std.proofs.lemmas.Result.{IfOk-weaker}
use Rattle.tt_search.specs.declared.limits.TheConstants.{MOST_EXPANDED}
use Rattle.tsumego.specs.CommandLine.{number_arg, solve_app}
use Rattle.tsumego.proofs.Getters.{none_global}
use Rattle.tsumego.proofs.arguments.solve_parser.Goals as goal

pub returns-clause-shape : goal.returns-clause-shape
unfolding solve_app
returns-clause-shape c =
    let one_is : app_of c.in_ok-one.one ≡ with_rule (new_app (codes "solve")) (number_arg (codes "budget") MOST_EXPANDED (codes "100000")) =
    c.in_ok-one.ensures.shape c.number_option-budget.ensures.local ∙ ap₂ with_rule c.bare_parser.ensures.app c.number_option-budget.ensures.rule in
    let two_is = c.in_ok-two.ensures.shape c.number_option-depth.ensures.local ∙ ap₂ with_rule one_is c.number_option-depth.ensures.rule in
    let three_is = c.in_ok-three.ensures.shape c.optional_number_option-total.ensures.local ∙ ap₂ with_rule two_is c.optional_number_option-total.ensures.rule in
    let four_is = c.in_ok-four.ensures.shape c.optional_number_option-dfpn.ensures.local ∙ ap₂ with_rule three_is c.optional_number_option-dfpn.ensures.rule in
    let five_is = c.in_ok-five.ensures.shape c.number_option-workers.ensures.local ∙ ap₂ with_rule four_is c.number_option-workers.ensures.rule in
    let six_is = c.in_ok-six.ensures.shape c.flag_option-cert.ensures.local ∙ ap₂ with_rule five_is c.flag_option-cert.ensures.rule in
    let seven_is = c.in_ok-seven.ensures.shape c.flag_option-parts.ensures.local ∙ ap₂ with_rule six_is c.flag_option-parts.ensures.rule in
    let eight_is = c.in_ok-eight.ensures.shape c.flag_option-turns.ensures.local ∙ ap₂ with_rule seven_is c.flag_option-turns.ensures.rule in
    IfOk-weaker c.arg-9.result _ _ (λ r h. h.shape c.flag_option-progress.ensures.local ∙ ap₂ with_rule eight_is c.flag_option-progress.ensures.rule) c.arg-9.ensures

pub returns-clause-local : goal.returns-clause-local
returns-clause-local c =
    let one = none_global _ _ _ c.in_ok-one.ensures.globals c.bare_parser.ensures.local c.number_option-budget.ensures.local in
    let two = none_global _ _ _ c.in_ok-two.ensures.globals one c.number_option-depth.ensures.local in
    let three = none_global _ _ _ c.in_ok-three.ensures.globals two c.optional_number_option-total.ensures.local in
    let four = none_global _ _ _ c.in_ok-four.ensures.globals three c.optional_number_option-dfpn.ensures.local in
    let five = none_global _ _ _ c.in_ok-five.ensures.globals four c.number_option-workers.ensures.local in
    let six = none_global _ _ _ c.in_ok-six.ensures.globals five c.flag_option-cert.ensures.local in
    let seven = none_global _ _ _ c.in_ok-seven.ensures.globals six c.flag_option-parts.ensures.local in
    let eight = none_global _ _ _ c.in_ok-eight.ensures.globals seven c.flag_option-turns.ensures.local in
    IfOk-weaker c.arg-9.result _ _ (λ r h. none_global _ _ _ h.globals eight c.flag_option-progress.ensures.local) c.arg-9.ensures
