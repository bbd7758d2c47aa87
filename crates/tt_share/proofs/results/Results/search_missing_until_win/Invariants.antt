use Rattle.std.proofs.Common.{◌≡◌, ◌*◌, ℕ, ◌<◌, ◌≤◌, slice_get, length}
use Rattle.tt_share.specs.inside.Results.{AskedFor, FilledBelow, IsWinAt, KeepsEnds}
use Rattle.tt_share.proofs.results.Results.search_missing_until_win.Given as goal

abbrev pub invariant-loop-job : goal.invariant-loop-job
invariant-loop-job g l = record {
  same : l.self ≡ record l.initial.self { ends = l.self.ends; spent = l.self.spent };
  asks : AskedFor l.initial.self (g.G.Grants.asked l.fn.grants) l.self (g.G.Grants.asked l.grants);
  few : (g.G.Grants.asked l.grants).granted ≤ l.job * 1000000;
  source : g.G.Grants.source l.grants ≡ g.G.Grants.source l.fn.grants;
  len : length l.self.ends ≡ length l.initial.self.ends;
  filled : FilledBelow l.job l.self.ends;
  kept : KeepsEnds l.initial.self.ends l.self.ends;
  lost : (k : ℕ) → k < l.job → ¬ IsWinAt l.self.line.state.to_move l.self.ends k;
  rest : (k : ℕ) → l.job ≤ k → slice_get l.self.ends k ≡ slice_get l.initial.self.ends k;
}
