use Rattle.std.proofs.Common.{◌≡◌, ℕ, ◌%◌, ◌-◌, ◌<◌, ◌≤◌, ◌↔◌, true, false}
use Rattle.tt_sgf.specs.declared.bits.TheConstants.{BITS}
use Rattle.tt_sgf.specs.MachineWords.{bit_in}
use Rattle.tt_board.proofs.colouring.around.first_column.Given as goal

abbrev pub invariant-loop-p : goal.invariant-loop-p
invariant-loop-p l = record {
  column : l.p % l.fn.size.columns ≡ 0;
  done : (q : ℕ) → q < l.p → q < BITS → (bit_in l.found.words q ≡ true) ↔ (q % l.fn.size.columns ≡ 0);
  rest : (q : ℕ) → l.p ≤ q → q < BITS → bit_in l.found.words q ≡ false;
}

abbrev pub decreases-loop-p : goal.decreases-loop-p
decreases-loop-p l = l.count - l.p
