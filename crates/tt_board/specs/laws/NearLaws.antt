-- Points that are adjacent.
use Rattle.std.proofs.Common.{ℕ, ◌<◌, inl, inr, sym}
use Rattle.tt_sgf.specs.declared.size.Size.{Size}
use Rattle.tt_sgf.specs.Sizes.{point_count}
use Rattle.tt_board.specs.Near.{IsNeighbour}

-- neighbours are each other's
pub near_back : (s : Size) (p q : ℕ) → p < point_count s → IsNeighbour s p q → IsNeighbour s q p
near_back s p q in_p (in_q, inl (row, inl step)) = (in_p, inl (sym row, inr step))
near_back s p q in_p (in_q, inl (row, inr step)) = (in_p, inl (sym row, inl step))
near_back s p q in_p (in_q, inr (column, inl step)) = (in_p, inr (sym column, inr step))
near_back s p q in_p (in_q, inr (column, inr step)) = (in_p, inr (sym column, inl step))
