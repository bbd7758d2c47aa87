use Rattle.std.proofs.Common.{◌∷◌, [], ◌++◌, ◌∙◌, ap}
use Rattle.tt_share.specs.Log.{ViewState}
use Rattle.tt_share.proofs.log.view.View.read_entry.Goals as goal

pub returns-clause-tokens : goal.returns-clause-tokens
returns-clause-tokens c =
    let before = c.reserve.ensures.tokens ∙ ap (λ (v : ViewState). v.tokens) (c.self.view_is ∙ c.skip_if_own.ensures) in
    (c.in-Some.token ∷ [], c.put.ensures.tokens ∙ ap (λ ts. ts ++ c.in-Some.token ∷ []) before)
