-- What the footprints of settled nodes are joined from. For private contracts and proofs.
use Rattle.std.specs.Prelude.{◌≡◌, ◌-◌, length, List}
use Rattle.tt_game.specs.declared.frame.Frame.{Frame}
use Rattle.tt_game.specs.declared.frame.Side.{Side}
use Rattle.tt_game.specs.Game.{State}
use Rattle.tt_game.specs.laws.TurnLaws.{EachIsLegal}
use Rattle.tt_proof.specs.declared.tree.TheConstants.{MOST_DEPTH}
use Rattle.tt_search.specs.PartialTree.{PartialTree, Children, no_more, more}
use Rattle.tt_search.specs.Numbers.{number}
use Rattle.tt_search.specs.Growing.{IsPartialTree, ArePartialTrees}
use Rattle.tt_search.specs.inside.Within.{StaysWithin, AllStayWithin}
use Rattle.tt_search.specs.inside.Children.{children_of}
use Rattle.tt_search.specs.inside.Edges.{edge_turns, edge_trees, grown_in}
use Rattle.tt_search.specs.declared.tree.edges.Edge.{Edge}

-- each child's number is 0
abbrev pub AreZero : Side → Children → Type 0
AreZero side no_more = Unit {0}
AreZero side (more tree children) = (number side tree ≡ 0) × AreZero side children

-- a tree of the state that is settled for the side, and reaches no deeper than a proof may
pub record IsSettledAt (side : Side) (f : Frame) (s : State) (tree : PartialTree) : Type 0 where
  pub settled : number side tree ≡ 0
  pub partial : IsPartialTree f s tree
  pub stays : StaysWithin f.size MOST_DEPTH tree

-- the trees behind legal turns of the state, each settled for the side; there is a node for each child that has grown
pub record AreSettledAt (side : Side) (f : Frame) (s : State) (es : List Edge) (grown : List PartialTree) : Type 0 where
  pub whole : grown_in es ≡ length grown
  pub settled : AreZero side (children_of (edge_trees es grown))
  pub legal : EachIsLegal f s (edge_turns es)
  pub partial : ArePartialTrees f s (edge_turns es) (children_of (edge_trees es grown))
  pub stays : AllStayWithin f.size (MOST_DEPTH - 1) (children_of (edge_trees es grown))
