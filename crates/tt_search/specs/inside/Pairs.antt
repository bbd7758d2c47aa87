-- The numbers of a side and of its opponent, as the code hands them on. For private contracts and proofs.
use Rattle.std.specs.Prelude.{◌≡◌, ℕ, ◌+◌, ◌-◌, ◌==◌, if◌then◌else◌, min}
use Rattle.tt_game.specs.declared.frame.Side.{Side}
use Rattle.tt_game.specs.Game.{opponent}
use Rattle.tt_search.specs.PartialTree.{PartialTree}
use Rattle.tt_search.specs.Numbers.{infinite, cap, number}
use Rattle.tt_search.specs.declared.tree.numbers.PhiDelta.{PhiDelta}

pub record ArePair (side : Side) (tree : PartialTree) (n : PhiDelta) : Type 0 where
  pub own : n.own ≡ number side tree
  pub other : n.other ≡ number (opponent side) tree

-- the sum once one of its numbers, the old one, has become the new one
abbrev pub changed_sum : ℕ → ℕ → ℕ → ℕ
changed_sum total old new = if new == infinite then infinite else min (total - old + new) cap
