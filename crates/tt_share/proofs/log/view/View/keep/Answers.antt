use Rattle.std.proofs.Common.{◌+◌, ◌∷◌, [], ◌++◌, ◌∙◌, ap}
use Rattle.tt_share.specs.Log.{ViewState}
use Rattle.tt_share.proofs.log.view.View.keep.Goals as goal

pub returns-clause-stored : goal.returns-clause-stored
returns-clause-stored g c = λ is. record {
  counted = ap (λ (v : ViewState). v.kept + 1) c.self.view_is;
  token = c.in-Ok.token;
  added = c.put.ensures.tokens ∙ ap (λ ts. ts ++ c.in-Ok.token ∷ []) (c.reserve-else-is_err.ensures.tokens ∙ ap (λ (v : ViewState). v.tokens) c.self.view_is);
  of_proof = c.in-Ok.ensures.proof;
}
