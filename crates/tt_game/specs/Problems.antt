-- Problems: a main line up to the first node that marks targets by TR, with the region by SQ (SGF FF[4]).
use Rattle.std.specs.Prelude.{ℕ, suc, ◌+◌, ◌&&◌, ◌||◌, nat_eq, nat_le, cond, Bool, List, [], ◌∷◌, take, Option, Some, None, Ok, Err, true, false, if◌then◌else◌}
use Rattle.std.specs.declared.result.Result.{Result}
use Rattle.std.specs.FinSet as set
use Rattle.tt_sgf.specs.declared.size.Size.{Size}
use Rattle.tt_sgf.specs.declared.nodes.Node.{Node}
use Rattle.tt_sgf.specs.Sizes.{point_count}
use Rattle.tt_sgf.specs.Points.{passing}
use Rattle.tt_board.specs.declared.Colour.{Colour}
use Rattle.tt_board.specs.declared.Colour.TheVariants.{Black, White}
use Rattle.tt_board.specs.Play.{same_colour}
use Rattle.tt_board.specs.Stones.{PointNumberSet}
use Rattle.tt_game.specs.declared.faults.GameFault.{GameFault}
use Rattle.tt_game.specs.declared.faults.GameFault.TheVariants.{NoTarget, EmptyTarget, MixedTargets}
use Rattle.tt_game.specs.declared.frame.Side.{Side}
use Rattle.tt_game.specs.declared.frame.Side.TheVariants.{Attacker, Defender}
use Rattle.tt_game.specs.Line.{LineWithUndo}
use Rattle.tt_game.specs.declared.records.GameSoFar.{GameSoFar}
use Rattle.tt_game.specs.Games.{GameState}
use Rattle.tt_game.specs.Faults.{least_with_entry, read_set}
use Rattle.tt_game.specs.Nodes.{AB, AW, TR, SQ, has, move_count}
use Rattle.tt_game.specs.Records.{and_then, at_node, step_node, empty_game_for_nodes, apply_nodes}

-- all points of a board
abbrev pub whole : Size → PointNumberSet
whole size = passing (λ q. true) (point_count size)

-- the region that node k says: the points of SQ, or all points where the node has no SQ
abbrev pub read_region : ℕ → Size → Node → Result PointNumberSet GameFault
read_region k size n = cond (has SQ n) (read_set k size SQ n) (Ok (whole size))

-- the side that moves with a colour
abbrev pub side_of : Colour → Colour → Side
side_of defender k = cond (same_colour defender k) Defender Attacker

-- the game goes on as a problem: the history and the side to move stay, and the passes are counted anew
abbrev pub posed_problem : GameState → PointNumberSet → PointNumberSet → Colour → LineWithUndo
posed_problem s region targets k = record {
  frame = record { size = s.size; region = region; targets = targets; defender = k };
  state = record { earlier = s.earlier; present = s.present; to_move = side_of k s.to_move; passes = 0 };
  before = [];
}

-- the defender has the colour of the targets' stones, of which this is a white one and this a black one; where there are both, the least white one is at fault
abbrev pub defender_of : ℕ → Option ℕ → Option ℕ → Result Colour GameFault
defender_of k None black = Ok Black
defender_of k (Some p) None = Ok White
defender_of k (Some p) (Some q) = Err (MixedTargets k p)

-- none of the targets is empty
abbrev pub problem_if_stones : GameSoFar → PointNumberSet → PointNumberSet → Option ℕ → Result LineWithUndo GameFault
problem_if_stones r region targets None = and_then (defender_of r.node (least_with_entry targets r.game.present (Some White)) (least_with_entry targets r.game.present (Some Black)))
    (λ k. Ok (posed_problem r.game region targets k))
problem_if_stones r region targets (Some p) = Err (EmptyTarget r.node p)

-- a problem wants some target, a stone on each, and all of one colour
abbrev pub problem_if_targets_valid : GameSoFar → PointNumberSet → PointNumberSet → Result LineWithUndo GameFault
problem_if_targets_valid r region targets = if nat_eq (set.len targets) 0 then Err NoTarget else problem_if_stones r region targets (least_with_entry targets r.game.present None)

-- the problem at a node: bad values of TR and SQ come first
abbrev pub problem_at_node : GameSoFar → Node → Result LineWithUndo GameFault
problem_at_node r n = and_then (read_set r.node r.game.size TR n) (λ targets. and_then (read_region r.node r.game.size n) (λ region. problem_if_targets_valid r region targets))

-- nodes up to and with the first that has TR, which stand behind k others
unfoldable pub problem_at_targets : ℕ → GameSoFar → List Node → Result LineWithUndo GameFault
problem_at_targets k r [] = Err NoTarget
problem_at_targets k r (n ∷ ns) = and_then (step_node (at_node (k + 1) r) n) (λ q. cond (has TR n) (problem_at_node q n) (problem_at_targets (k + 1) q ns))

-- what problem a main line is
unfoldable pub problem_of : List Node → Result LineWithUndo GameFault
problem_of ns = and_then (empty_game_for_nodes ns) (λ r. problem_at_targets 0 r ns)

-- ---- main lines without targets

abbrev pub adds_stones : Node → Bool
adds_stones n = has AB n || has AW n

-- how many nodes stand in front of the first move behind stones that are set up, given whether some are already
unfoldable pub node_count_before_solution : Bool → List Node → ℕ
node_count_before_solution up [] = 0
node_count_before_solution up (n ∷ ns) = if up && nat_le 1 (move_count n) then 0 else suc (node_count_before_solution (up || adds_stones n) ns)

-- the game that those nodes come to: what stands behind them is a solution
unfoldable pub game_of : List Node → Result GameState GameFault
game_of ns = and_then (empty_game_for_nodes ns) (λ r. and_then (apply_nodes 0 r (take (node_count_before_solution false ns) ns)) (λ q. Ok q.game))
