-- How large a strategy is.
use Rattle.std.specs.Prelude.{ℕ, ◌+◌}
use Rattle.tt_proof.specs.Strategy.{Strategy, Entries, done, pick, reply, none, entry}

abbrev mutual
  -- how many nodes the strategy has: 1 where nothing more is played, one more than what a pick goes on with, and one more
  -- than all that a reply answers with
  pub nodes : Strategy → ℕ
  nodes done = 1
  nodes (pick t u) = nodes u + 1
  nodes (reply es) = nodes_of_entries es + 1

  pub nodes_of_entries : Entries → ℕ
  nodes_of_entries none = 0
  nodes_of_entries (entry t u es) = nodes u + nodes_of_entries es
