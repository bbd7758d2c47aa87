-- What a node keeps beside its numbers, and the proof that a settled node holds. For private contracts and proofs.
use Rattle.std.specs.Prelude.{◌≡◌}
use Rattle.tt_game.specs.declared.frame.Side.{Side}
use Rattle.tt_proof.specs.ProofClaim.{ProofClaim}
use Rattle.tt_search.specs.PartialTree.{PartialTree}
use Rattle.tt_search.specs.Numbers.{number}
use Rattle.tt_search.specs.Settled.{strategy_for}
use Rattle.tt_search.specs.inside.Choices.{node_with}
use Rattle.tt_search.specs.inside.ChildNodes.{choices_of, HasItsNodes}
use Rattle.tt_search.specs.inside.Kept.{IsKept}
use Rattle.tt_search.specs.inside.Untried.{plays_and_pass, AreUntried}
use Rattle.tt_search.specs.declared.tree.children.ChildNodes.{ChildNodes}
use Rattle.tt_search.specs.declared.tree.node.NodeState.{NodeState}
use Rattle.tt_search.specs.declared.tree.node.NodeState.TheVariants.{Fresh, Won, Closed, Untried, Expanded, Offered}

-- the tree is settled for the proof's side, and its strategy is the proof's
pub record IsProofOfTree (tree : PartialTree) (p : ProofClaim) : Type 0 where
  pub settled : number p.side tree ≡ 0
  pub strategy : p.tree ≡ strategy_for p.side tree

-- each child that has grown has its node, and the proof is one of the tree that the mover has with these children
pub record IsOffered (mover : Side) (children : ChildNodes) (p : ProofClaim) : Type 0 where
  pub whole : HasItsNodes children
  pub proof : IsProofOfTree (node_with (choices_of mover children)) p

-- what an expanded node keeps beside its children is right, and so is the proof of one that has offered it
abbrev pub HoldsItsOwn : NodeState → Type 0
HoldsItsOwn Fresh = Unit {0}
HoldsItsOwn (Won side) = Unit {0}
HoldsItsOwn (Closed proof) = Unit {0}
HoldsItsOwn (Untried mover plays) = AreUntried (plays_and_pass plays)
HoldsItsOwn (Expanded focus children) = IsKept focus children
HoldsItsOwn (Offered mover children proof) = IsOffered mover children proof.value
