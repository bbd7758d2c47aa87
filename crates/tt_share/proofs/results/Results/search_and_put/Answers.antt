use Rattle.std.proofs.Common.{◌≡◌, Some, None, slice_get, sym, subst}
use Rattle.tt_share.specs.inside.Jobs.{IsResult}
use Rattle.tt_share.proofs.Asked.{asked_put}
use Rattle.tt_share.proofs.Placing.{shown}
use Rattle.tt_share.proofs.results.Results.search_and_put.Goals as goal

pub put_if_missing-requires : goal.put_if_missing-requires
put_if_missing-requires g c = record {
  searched = shown (λ l m es. IsResult l m c.search-searched.result) c.self.inside.jobs.line.now c.self.inside.jobs.limits c.self.inside.ends.items c.self.inside.spent.items
      c.args.self.now c.self.view_is c.search-searched.ensures.result;
}

pub returns-clause-asks : goal.returns-clause-asks
returns-clause-asks g c =
    let f = c.search-searched.result in
    let free : slice_get c.args.self.now.ends f.job ≡ Some None = subst (λ n. slice_get c.args.self.now.ends n ≡ Some None) (sym c.search-searched.ensures.job) c.requires.free in
    asked_put c.args.self.now c.put_if_missing.new.self f (g.G.Grants.asked c.args.grants.now)
    (g.G.Grants.asked c.search-searched.new.grants) free c.put_if_missing.ensures.puts c.put_if_missing.ensures.notes
    c.search-searched.ensures.asks
