use Rattle.std.proofs.Common.{ap}
use Rattle.std.proofs.lemmas.Result.{IfErr-weaker}
use Rattle.tt_share.specs.Log.{ViewState}
use Rattle.tt_share.proofs.Tokens.{has_newest}
use Rattle.tt_share.proofs.log.view.View.find.Goals as goal

pub returns-clause-memory : goal.returns-clause-memory
returns-clause-memory c =
    IfErr-weaker c.handle_of.result _ _
    (λ _ some. has_newest _ c.args.line.now c.args.s _ _ c.newest_proof.result (ap (λ (v : ViewState). v.tokens) c.self.view_is) c.newest_proof.ensures.newest some) c.handle_of.ensures.err
