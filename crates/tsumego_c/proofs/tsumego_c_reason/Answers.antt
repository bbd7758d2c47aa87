use Rattle.std.proofs.Common.{◌∙◌, sym}
use Rattle.tsumego_c.proofs.Endings.{ends_as}
use Rattle.tsumego_c.proofs.tsumego_c_reason.Goals as goal

pub returns : goal.returns
returns c =
    let words = c.reason_of_refusal.ensures in
    ends_as c.args.out.now c.hand_over_text.new.out c.hand_over_text.new.taken c.hand_over_text.result
    (λ text status h. ((λ some. words.numbers (λ none. some (h.0 ∙ none)), λ is none. words.words is (sym h.0 ∙ none)), h.1)) c.hand_over_text.ensures
