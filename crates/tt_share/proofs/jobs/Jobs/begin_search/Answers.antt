use Rattle.std.proofs.Common.{◌≡◌, ◌∙◌, ◌<◌, IfOk, ap, length, refl, sym, subst, List}
use Rattle.std.proofs.lemmas.Option.{same_Some}
use Rattle.tt_game.specs.declared.turns.Turn.{Turn}
use Rattle.tt_game.specs.Game.{after}
use Rattle.tt_game.specs.Line.{LineWithUndo}
use Rattle.tt_search.specs.SearchState.{SearchState}
use Rattle.tt_share.specs.Answers.{IsSearchAfter}
use Rattle.tt_share.specs.inside.Jobs.{IsJob}
use Rattle.tt_share.proofs.Lost.{legal_job}
use Rattle.tt_share.proofs.Wins.{job_here}
use Rattle.tt_share.proofs.jobs.Jobs.begin_search.Goals as goal

pub after-requires : goal.after-requires
after-requires c =
    let jobs = c.args.self.now in
    let within = subst (λ (ts : List Turn). c.args.job < length ts) (sym c.as_slice.ensures.value) c.requires.job in
    let job : IsJob jobs.line.now c.args.job c.index-as_slice-job.result =
    job_here jobs.line.now c.as_slice.result.now c.args.job c.args.job c.index-as_slice-job.result (c.as_slice.ensures.value ∙ jobs.listed) refl within c.index-as_slice-job.is in
    legal_job jobs.line.now c.args.job c.index-as_slice-job.result job

pub returns-clause-behind : goal.returns-clause-behind
returns-clause-behind c =
    let jobs = c.args.self.now in
    let line = jobs.line.now in
    let behind = c.in_ok-behind in
    let limits = c.limits_after-limits in
    let within = subst (λ (ts : List Turn). c.args.job < length ts) (sym c.as_slice.ensures.value) c.requires.job in
    let job : IsJob line c.args.job c.index-as_slice-job.result =
    job_here line c.as_slice.result.now c.args.job c.args.job c.index-as_slice-job.result (c.as_slice.ensures.value ∙ jobs.listed) refl within c.index-as_slice-job.is in
    subst (λ r. IfOk r (λ (s : SearchState). (t : Turn) → IsJob line c.args.job t → IsSearchAfter line jobs.limits t s)) (sym c.new.ensures)
    (λ t at. record {
      frame = ap (λ (l : LineWithUndo). l.frame) behind.ensures;
      state = subst (λ (u : Turn). behind.behind.state ≡ after line.frame line.state u) (same_Some c.index-as_slice-job.result t (sym job ∙ at)) (ap (λ (l : LineWithUndo). l.state) behind.ensures);
      budget = limits.ensures.budget;
      depth_is = limits.ensures.depth;
    })
