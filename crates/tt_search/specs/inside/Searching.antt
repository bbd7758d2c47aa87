-- What is true of every search. For private contracts and proofs.
use Rattle.std.specs.Prelude.{◌≡◌, ◌+◌}
use Rattle.tt_search.specs.Numbers.{count}
use Rattle.tt_search.specs.Growing.{IsPartialTree, IsGrownFromRoot}
use Rattle.tt_search.specs.inside.Within.{StaysWithin}
use Rattle.tt_search.specs.inside.Walking.{Stand, Stage}
use Rattle.tt_search.specs.declared.limits.Limits.{Limits}

-- the tree is grown where the search stands, and what it has expanded and what is left make the budget
pub record IsSearch (at : Stand) (limits : Limits) (now : Stage) : Type 0 where
  pub room : at.room ≡ limits.depth
  pub counted : now.left + count now.tree ≡ limits.budget
  pub partial : IsPartialTree at.frame at.state now.tree
  pub stays : StaysWithin at.frame.size at.room now.tree
  pub grown : IsGrownFromRoot limits at.frame at.state now.tree
