-- The numbers that a node keeps are those of its tree.
use Rattle.std.specs.Prelude.{◌≡◌, ℕ}
use Rattle.tt_search.specs.Numbers.{proof_number, disproof_number}
use Rattle.tt_search.specs.PartialTree.{PartialTree}

pub record IsCached (proof : ℕ) (disproof : ℕ) (tree : PartialTree) : Type 0 where
  pub proof_is : proof ≡ proof_number tree
  pub disproof_is : disproof ≡ disproof_number tree
