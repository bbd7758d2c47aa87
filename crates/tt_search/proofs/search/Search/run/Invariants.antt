use Rattle.std.proofs.Common.{◌≡◌}
use Rattle.tt_search.specs.RunEnds.{HasRunTo, HasGrantPerExpansion}
use Rattle.tt_search.proofs.Open.{left_to_do}
use Rattle.tt_search.proofs.search.Search.run.Given as goal

abbrev pub invariant-loop-search : goal.invariant-loop-search
invariant-loop-search g l = record {
  reached : HasRunTo l.fn.self l.search;
  spent : HasGrantPerExpansion l.fn.self (g.G.Grants.asked l.fn.grants) l.search (g.G.Grants.asked l.grants);
  source : g.G.Grants.source l.grants ≡ g.G.Grants.source l.fn.grants;
  same : (g.G.Grants.asked l.grants).refused ≡ (g.G.Grants.asked l.fn.grants).refused;
}

abbrev pub decreases-loop-search : goal.decreases-loop-search
decreases-loop-search g l = left_to_do l.search
