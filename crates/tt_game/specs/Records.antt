-- Records: what a main line comes to, node by node, or the first refusal.
use Rattle.std.specs.Prelude.{◌≡◌, ℕ, ◌+◌, ◌==◌, nat_le, cond, List, [], ◌∷◌, Option, Some, None, Ok, Err, MatchResult}
use Rattle.std.specs.declared.result.Result.{Result}
use Rattle.tt_sgf.specs.declared.size.Size.{Size}
use Rattle.tt_sgf.specs.declared.size.PointOrPass.{PointOrPass}
use Rattle.tt_sgf.specs.declared.size.PointOrPass.TheVariants.{On, Pass as PassValue}
use Rattle.tt_sgf.specs.declared.nodes.Node.{Node}
use Rattle.tt_sgf.specs.declared.nodes.Property.{Property}
use Rattle.tt_sgf.specs.Sizes.{sized}
use Rattle.tt_sgf.specs.Values.{point_of, trimmed}
use Rattle.tt_board.specs.declared.Colour.{Colour}
use Rattle.tt_board.specs.declared.Colour.TheVariants.{Black, White}
use Rattle.tt_board.specs.Position.{Colouring}
use Rattle.tt_board.specs.Play.{same_colour}
use Rattle.tt_board.specs.Stones.{PointNumberSet}
use Rattle.tt_board.specs.Setup.{placed}
use Rattle.tt_board.specs.Score.{score_of}
use Rattle.tt_game.specs.declared.faults.Why.{Why}
use Rattle.tt_game.specs.declared.faults.Why.TheVariants.{Over, Occupied, Outside, Repeats}
use Rattle.tt_game.specs.declared.faults.GameFault.{GameFault}
use Rattle.tt_game.specs.declared.faults.GameFault.TheVariants.{NotGo, BadSize, PointTwice, MixedNode, StoneWithoutLiberty, OccupiedPoint, RepeatedBoard, AfterEnd, TooManyTurns, NoMemory}
use Rattle.tt_game.specs.declared.records.Record.{Record}
use Rattle.tt_game.specs.declared.records.GameSoFar.{GameSoFar}
use Rattle.tt_game.specs.declared.records.TheConstants.{MOST_TURNS}
use Rattle.tt_game.specs.declared.turns.Turn.{Turn}
use Rattle.tt_game.specs.declared.turns.Turn.TheVariants.{Play, Pass}
use Rattle.tt_game.specs.Games.{GameState, refusal_of, game_after_turn, empty_game, begun_with}
use Rattle.tt_game.specs.Faults.{bad_first_value, least_point, least_without_liberty, read_mover, read_set}
use Rattle.tt_game.specs.Nodes.{values_of, in_two_sets, move_count, is_setup, is_go, size_or_default, AB, AW, AE, B, W, GM, SZ}

-- A GameSoFar is a game, the count of the turns that were played, implied passes among them, and the number of the node at hand.

-- what follows, where the step before was not refused
abbrev pub and_then : {A B : Type 0} → Result A GameFault → (A → Result B GameFault) → Result B GameFault
and_then (Ok x) f = f x
and_then (Err e) f = Err e

-- ---- turns

-- the point of a play; a pass has none
abbrev pub turn_point : Turn → Option ℕ
turn_point Pass = None
turn_point (Play p) = Some p

-- the fault that a refused turn is at node k: a pass is refused after the end alone, and a game has no region, so no turn is outside
abbrev pub fault_of : ℕ → Option ℕ → Why → GameFault
fault_of k None why = AfterEnd k None
fault_of k (Some p) Over = AfterEnd k (Some p)
fault_of k (Some p) Occupied = OccupiedPoint k p
fault_of k (Some p) Outside = OccupiedPoint k p
fault_of k (Some p) Repeats = RepeatedBoard k p

-- a turn that is refused is the fault, any other is made and counted
abbrev pub turn_or_fault : GameSoFar → Turn → Option Why → Result GameSoFar GameFault
turn_or_fault r t None = Ok (record { game = game_after_turn r.game t; turns = r.turns + 1; node = r.node })
turn_or_fault r t (Some why) = Err (fault_of r.node (turn_point t) why)

-- a turn of the side to move: after the end no turn, no more than a record has, and a legal one
abbrev pub play_next_turn : GameSoFar → Turn → Result GameSoFar GameFault
play_next_turn r t = cond (r.game.passes == 2) (Err (AfterEnd r.node (turn_point t))) (cond (nat_le MOST_TURNS r.turns) (Err (TooManyTurns r.node)) (turn_or_fault r t (refusal_of r.game t)))

-- a turn of a colour; where the other is to move it passes first
abbrev pub play_turn_by : GameSoFar → Colour → Turn → Result GameSoFar GameFault
play_turn_by r k t = cond (same_colour r.game.to_move k) (play_next_turn r t) (and_then (play_next_turn r Pass) (λ q. play_next_turn q t))

-- a point as a play on it, a pass as a pass
abbrev pub as_turn : PointOrPass → Turn
as_turn (On p) = Play p
as_turn PassValue = Pass

-- a turn of a colour, by the point or pass that its value is; a value that is neither is the fault
abbrev pub play_named_turn : GameSoFar → Colour → GameFault → Option PointOrPass → Result GameSoFar GameFault
play_named_turn r k e None = Err e
play_named_turn r k e (Some v) = play_turn_by r k (as_turn v)

-- the move among a node's properties, where it has one, by the values of B and W
abbrev pub play_node_move : GameSoFar → List Property → List (List ℕ) → List (List ℕ) → Result GameSoFar GameFault
play_node_move r ps (v ∷ vs) ws = play_named_turn r Black (bad_first_value r.node B 0 ps) (point_of r.game.size (trimmed v))
play_node_move r ps [] (w ∷ ws) = play_named_turn r White (bad_first_value r.node W 0 ps) (point_of r.game.size (trimmed w))
play_node_move r ps [] [] = Ok r

-- ---- setup

-- a stone that doesn't reach empty is the fault; else the colouring that a setup makes is the whole history, and the count of turns goes on
abbrev pub setup_or_fault : GameSoFar → Colouring → Colour → Option ℕ → Result GameSoFar GameFault
setup_or_fault r c k None = Ok (record { game = begun_with r.game.size c k; turns = r.turns; node = r.node })
setup_or_fault r c k (Some p) = Err (StoneWithoutLiberty r.node p)

abbrev pub game_after_setup : GameSoFar → Colouring → Colour → Result GameSoFar GameFault
game_after_setup r c k = setup_or_fault r c k (least_without_liberty r.game.size c)

-- the three sets put over the present colouring, unless a point is in two of them
abbrev pub set_up_or_fault : GameSoFar → PointNumberSet → PointNumberSet → PointNumberSet → Colour → Option ℕ → Result GameSoFar GameFault
set_up_or_fault r black white clear k None = game_after_setup r (placed r.game.size r.game.present black white clear) k
set_up_or_fault r black white clear k (Some p) = Err (PointTwice r.node p)

-- a node's setup: the sets of AB, AW and AE, and the colour of PL
abbrev pub set_up_node : GameSoFar → Node → Result GameSoFar GameFault
set_up_node r n = and_then (read_set r.node r.game.size AB n) (λ black. and_then (read_set r.node r.game.size AW n) (λ white. and_then (read_set r.node r.game.size AE n)
    (λ clear. and_then (read_mover r.node n) (λ k. set_up_or_fault r black white clear k (least_point (in_two_sets black white clear))))))

-- ---- nodes

-- a setup node has no move, and a move node one at the most
unfoldable pub step_node : GameSoFar → Node → Result GameSoFar GameFault
step_node r n =
    cond (is_setup n) (cond (nat_le 1 (move_count n)) (Err (MixedNode r.node)) (set_up_node r n))
    (cond (nat_le 2 (move_count n)) (Err (MixedNode r.node)) (play_node_move r n.props (values_of B n.props) (values_of W n.props)))

-- the same before the node with this number
abbrev pub at_node : ℕ → GameSoFar → GameSoFar
at_node k r = record { game = r.game; turns = r.turns; node = k }

-- the empty board of this size, and no turn played; without a size a fault
abbrev pub empty_game_of_size : Option Size → Result GameSoFar GameFault
empty_game_of_size None = Err BadSize
empty_game_of_size (Some size) = Ok (record { game = empty_game size; turns = 0; node = 0 })

-- before the first node: its game and its size
unfoldable pub empty_game_for_root : Node → Result GameSoFar GameFault
empty_game_for_root n = cond (is_go (values_of GM n.props)) (empty_game_of_size (size_or_default (values_of SZ n.props))) (Err NotGo)

-- before the first node; where there is none, on a board of 19 by 19
abbrev pub empty_game_for_nodes : List Node → Result GameSoFar GameFault
empty_game_for_nodes [] = empty_game_of_size (sized 19 19)
empty_game_for_nodes (n ∷ ns) = empty_game_for_root n

-- after all these nodes, which stand behind k others
unfoldable pub apply_nodes : ℕ → GameSoFar → List Node → Result GameSoFar GameFault
apply_nodes k r [] = Ok r
apply_nodes k r (n ∷ ns) = and_then (step_node (at_node (k + 1) r) n) (λ q. apply_nodes (k + 1) q ns)

-- ---- records

-- a game's record: the areas of both colours, and whether two passes in a row ended it
abbrev pub record_of_game : GameState → Record
record_of_game s = record { black = score_of s.size s.present Black; white = score_of s.size s.present White; finished = s.passes == 2 }

-- what a main line's record is
unfoldable pub record_of : List Node → Result Record GameFault
record_of ns = and_then (empty_game_for_nodes ns) (λ r. and_then (apply_nodes 0 r ns) (λ q. Ok (record_of_game q.game)))

-- an error: but for want of memory it is the definition's
abbrev pub IsErrorUnlessNoMemory : {A : Type 0} → GameFault → Result A GameFault → Type 0
IsErrorUnlessNoMemory e want = (e ≡ NoMemory → ⊥) → want ≡ Err e

-- a function returned what is wanted, or its error; but for want of memory
abbrev pub ReturnsUnlessNoMemory : {A : Type 0} → Result A GameFault → Result A GameFault → Type 0
ReturnsUnlessNoMemory result want = MatchResult result (λ x. want ≡ Ok x) (λ e. IsErrorUnlessNoMemory e want)

-- a function changed its value to what is wanted, or returned the error; but for want of memory
abbrev pub UpdatesUnlessNoMemory : {A B : Type 0} → Result B GameFault → A → Result A GameFault → Type 0
UpdatesUnlessNoMemory result new want = MatchResult result (λ _. want ≡ Ok new) (λ e. IsErrorUnlessNoMemory e want)
