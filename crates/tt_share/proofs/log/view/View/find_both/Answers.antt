use Rattle.std.proofs.Common.{ap, inl, inr}
use Rattle.tt_game.specs.declared.frame.Side.TheVariants.{Attacker, Defender}
use Rattle.tt_share.specs.Log.{ViewState}
use Rattle.tt_share.proofs.Tokens.{has_newest, if_err}
use Rattle.tt_share.proofs.log.view.View.find_both.Goals as goal

pub returns-in_err-attacker-clause-memory : goal.returns-in_err-attacker-clause-memory
returns-in_err-attacker-clause-memory c = if_err c.from_residual.result _
    (inl (has_newest _ c.args.line.now Attacker _ _ c.newest_proof_per_side.result.0 (ap (λ (v : ViewState). v.tokens) c.self.view_is)
    c.newest_proof_per_side.ensures.attacker c.in_err-attacker.ensures.err))

pub returns-in_err-defender-clause-memory : goal.returns-in_err-defender-clause-memory
returns-in_err-defender-clause-memory c = if_err c.from_residual-in_err-defender.result _
    (inr (has_newest _ c.args.line.now Defender _ _ c.newest_proof_per_side.result.1 (ap (λ (v : ViewState). v.tokens) c.self.view_is)
    c.newest_proof_per_side.ensures.defender c.in_err-defender.ensures.err))
