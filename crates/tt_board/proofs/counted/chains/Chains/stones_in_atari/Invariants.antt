use Rattle.std.proofs.Common.{◌≡◌, ℕ, ◌<◌, ◌≤◌, ◌-◌, ◌↔◌, true, false}
use Rattle.tt_sgf.specs.declared.bits.TheConstants.{BITS}
use Rattle.tt_sgf.specs.MachineWords.{bit_in}
use Rattle.tt_board.specs.inside.Chains.{name_at, root_of}
use Rattle.tt_board.proofs.counted.chains.Chains.stones_in_atari.Given as goal

abbrev pub decreases-loop-q : goal.decreases-loop-q
decreases-loop-q l = BITS - l.q

abbrev pub invariant-loop-q : goal.invariant-loop-q
invariant-loop-q l = record {
  most : l.q ≤ BITS;
  here : l.q < BITS → bit_in l.stones.words l.q ≡ true;
  done : (r : ℕ) → r < l.q → r < BITS → (bit_in l.found.words r ≡ true) ↔ ((bit_in l.stones.words r ≡ true) × (name_at l.self.counts.liberties (root_of (name_at l.self.counts.names r)) ≡ 1));
  rest : (r : ℕ) → l.q ≤ r → r < BITS → bit_in l.found.words r ≡ false;
}
