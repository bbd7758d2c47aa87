use Rattle.std.proofs.Common.{rules, ◌≡◌, subst}
use Rattle.std.proofs.lemmas.Result.{IfOk-weaker}
use Rattle.tt_game.specs.declared.frame.Side.{Side}
use Rattle.tt_proof.proofs.CertificateLemmas.{same_certificate}
use Rattle.tt_proof.specs.CertificateText.{IsCertificate, IsTooDeep}
use Rattle.tt_proof.specs.Strategy.{Strategy, strategy_of}
use Rattle.tt_proof.specs.Wins.{Wins}
use Rattle.library.proofs.solving.is_valid_certificate.Goals as goal

pub returns-in-Ok-clause-wins : goal.returns-in-Ok-clause-wins
returns-in-Ok-clause-wins c =
    let line = c.args.line.now in
    let text = c.args.text.now in
    let side = c.in-Ok.side in
    let strategy = strategy_of c.in-Ok.tree in
    let is : IsCertificate line.frame.size text side strategy = search (rules, c.in-Ok.ensures) in
    let shallow : IsTooDeep line.frame.size text → ⊥ = search (rules, c.in-Ok.ensures) in
    IfOk-weaker c.replay.result _ _ (λ wins exact. (
      (λ w. (shallow, record { side = side; strategy = strategy; is = is; wins = exact.0 w })),
      (λ h.
          let same = same_certificate line.frame.size text h.1.side side h.1.strategy strategy h.1.is is in
          exact.1 (subst (λ (u : Strategy). Wins side line.frame u line.state) same.1 (subst (λ (s : Side). Wins s line.frame h.1.strategy line.state) same.0 h.1.wins))),
    )) c.replay.ensures.exact
