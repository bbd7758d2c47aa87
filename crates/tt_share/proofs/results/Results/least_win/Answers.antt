use Rattle.std.proofs.Common.{◌∙◌, List, Option, MatchOption, ap, subst}
use Rattle.tt_game.specs.declared.frame.Side.{Side}
use Rattle.tt_share.specs.declared.jobs.JobResult.{JobResult}
use Rattle.tt_share.specs.inside.Results.{ResultsSoFar, NoWin, IsLeastWin}
use Rattle.tt_share.proofs.results.Results.least_win.Goals as goal

pub returns : goal.returns
returns c =
    let side = c.to_move.ensures ∙ ap (λ (p : ResultsSoFar). p.line.state.to_move) c.self.view_is in
    let ends = c.as_slice.ensures.value ∙ ap (λ (p : ResultsSoFar). p.ends) c.self.view_is in
    subst (λ (s : Side). MatchOption c.least_win_in.result (NoWin s c.args.self.now.ends) (IsLeastWin s c.args.self.now.ends)) side
    (subst (λ (l : List (Option JobResult)). MatchOption c.least_win_in.result (NoWin c.to_move.result l) (IsLeastWin c.to_move.result l)) ends c.least_win_in.ensures.least)
