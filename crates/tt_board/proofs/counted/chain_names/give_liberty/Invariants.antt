use Rattle.std.proofs.Common.{◌≡◌, ◌≢◌, ℕ, ◌+◌, ◌<◌}
use Rattle.tt_board.specs.inside.Chains.{name_at, root_of}
use Rattle.tt_board.proofs.counted.chain_names.give_liberty.Given as goal

abbrev pub invariant-loop-name : goal.invariant-loop-name
invariant-loop-name l = record {
  more : (i : ℕ) → i < l.name-index → name_at l.liberties (root_of (name_at l.near i)) ≡ name_at l.initial.liberties (root_of (name_at l.near i)) + 1;
  same : (r : ℕ) → ((i : ℕ) → i < l.name-index → root_of (name_at l.near i) ≢ r) → name_at l.liberties r ≡ name_at l.initial.liberties r;
}
