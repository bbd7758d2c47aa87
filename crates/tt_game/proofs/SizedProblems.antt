-- The colourings of a problem fit its board, and no pass was made.
use Rattle.std.proofs.Common.{◌≡◌, ℕ, ◌+◌, List, [], ◌∷◌, length, inl, inr, Option, Some, None, Ok, Err, subst, ◌==◌, nat_eq, nat_le, arith}
use Rattle.std.specs.Prelude.{All, replicate}
use Rattle.std.specs.FinSet as set
use Rattle.std.specs.declared.result.Result.{Result}
use Rattle.std.proofs.lemmas.List.{length-replicate}
use Rattle.std.proofs.lemmas.List.Elements.{All-nil, All-push}
use Rattle.tt_sgf.specs.declared.size.Size.{Size}
use Rattle.tt_sgf.specs.declared.size.PointOrPass.{PointOrPass}
use Rattle.tt_sgf.specs.declared.nodes.Node.{Node}
use Rattle.tt_sgf.specs.declared.nodes.Property.{Property}
use Rattle.tt_sgf.specs.Sizes.{point_count, sized}
use Rattle.tt_sgf.specs.Values.{point_of, trimmed}
use Rattle.tt_board.specs.declared.Colour.{Colour}
use Rattle.tt_board.specs.declared.Colour.TheVariants.{Black, White}
use Rattle.tt_board.specs.Position.{Colouring}
use Rattle.tt_board.specs.Play.{length-play_of, same_colour}
use Rattle.tt_board.specs.Stones.{PointNumberSet}
use Rattle.tt_board.specs.Setup.{length-placed, placed}
use Rattle.tt_game.specs.declared.faults.GameFault.{GameFault}
use Rattle.tt_game.specs.declared.faults.Why.{Why}
use Rattle.tt_game.specs.declared.records.GameSoFar.{GameSoFar}
use Rattle.tt_game.specs.declared.turns.Turn.{Turn}
use Rattle.tt_game.specs.declared.turns.Turn.TheVariants.{Play, Pass}
use Rattle.tt_game.specs.Games.{GameState, game_colourings, begun_with, empty_game, colouring_after_move, refusal_of, game_after_turn}
use Rattle.tt_game.specs.GameLaws.{IsWellFormedState, ProblemsAreStates}
use Rattle.tt_game.specs.Line.{LineWithUndo}
use Rattle.tt_game.specs.Faults.{least_point, least_with_entry, least_without_liberty, read_mover, read_set}
use Rattle.tt_game.specs.Nodes.{AB, AE, AW, B, GM, SZ, TR, W, in_two_sets, has, is_go, is_setup, move_count, size_or_default, values_of}
use Rattle.tt_game.specs.Problems.{posed_problem, problem_of, problem_if_stones, problem_if_targets_valid, read_region, problem_at_node, problem_at_targets}
use Rattle.tt_game.specs.Records.{and_then, as_turn, at_node, empty_game_of_size, empty_game_for_nodes, empty_game_for_root, setup_or_fault, turn_or_fault}
use Rattle.tt_game.specs.Records.{play_node_move, set_up_node, set_up_or_fault, step_node, play_turn_by, play_named_turn, play_next_turn}
use Rattle.tt_game.proofs.OpenProblems.{either, step_made}

-- each colouring of the game has an entry for each point
abbrev IsSized : GameState → Type 0
IsSized g = All (λ c. length c ≡ point_count g.size) (game_colourings g)

-- a history of one colouring
alone : (size : Size) (c : Colouring) → length c ≡ point_count size → All (λ d. length d ≡ point_count size) (c ∷ [])
alone size c fits = All-push (λ d. length d ≡ point_count size) [] c (All-nil (λ d. length d ≡ point_count size)) fits

-- a turn keeps an entry for each point
sized_turned : (g : GameState) (t : Turn) → IsSized g → IsSized (game_after_turn g t)
sized_turned g Pass h = h
sized_turned g (Play p) h = All-push (λ c. length c ≡ point_count g.size) (game_colourings g) (colouring_after_move g p) h (length-play_of g.size g.present g.to_move p)

-- ---- turns

-- so does a turn that was taken: alone, of a colour, by a value, or as a node's move
sized_on : (r : GameSoFar) (t : Turn) (o : Option Why) (q : GameSoFar) → turn_or_fault r t o ≡ Ok q → IsSized r.game → IsSized q.game
sized_on r t None q e h =
    let same : record { game = game_after_turn r.game t; turns = r.turns + 1; node = r.node } ≡ q = cc in
    subst (λ (x : GameSoFar). IsSized x.game) same (sized_turned r.game t h)
sized_on r t (Some why) q e h = let bad : Err _ ≡ Ok q = e in cc

sized_turn : (r : GameSoFar) (t : Turn) (q : GameSoFar) → play_next_turn r t ≡ Ok q → IsSized r.game → IsSized q.game
sized_turn r t q e h = elim (either (r.game.passes == 2) _ _ _ e) [
  | inl over ↦ let bad : Err _ ≡ Ok q = over in cc
  | inr on ↦ elim (either (nat_le 2000 r.turns) _ _ _ on) [
    | inl many ↦ let bad : Err _ ≡ Ok q = many in cc
    | inr few ↦ sized_on r t (refusal_of r.game t) q few h
  ]
]

sized_by : (r : GameSoFar) (k : Colour) (t : Turn) (q : GameSoFar) → play_turn_by r k t ≡ Ok q → IsSized r.game → IsSized q.game
sized_by r k t q e h = elim (either (same_colour r.game.to_move k) _ _ _ e) [
  | inl its ↦ sized_turn r t q its h
  | inr others ↦
      let passed = step_made (play_next_turn r Pass) (λ x. play_next_turn x t) q others in
      sized_turn passed.0 t q passed.2 (sized_turn r Pass passed.0 passed.1 h)
]

sized_named : (r : GameSoFar) (k : Colour) (f : GameFault) (o : Option PointOrPass) (q : GameSoFar) → play_named_turn r k f o ≡ Ok q → IsSized r.game → IsSized q.game
sized_named r k f None q e h = let bad : Err _ ≡ Ok q = e in cc
sized_named r k f (Some v) q e h = sized_by r k (as_turn v) q e h

sized_move : (r : GameSoFar) (ps : List Property) (vs ws : List (List ℕ)) (q : GameSoFar) → play_node_move r ps vs ws ≡ Ok q → IsSized r.game → IsSized q.game
sized_move r ps (v ∷ vs) ws q e h = sized_named r Black _ (point_of r.game.size (trimmed v)) q e h
sized_move r ps [] (w ∷ ws) q e h = sized_named r White _ (point_of r.game.size (trimmed w)) q e h
sized_move r ps [] [] q e h = let same : r ≡ q = cc in subst (λ (x : GameSoFar). IsSized x.game) same h

-- ---- setup

-- a setup's colouring begins a history with an entry for each point
sized_begun : (r : GameSoFar) (c : Colouring) (k : Colour) (o : Option ℕ) (q : GameSoFar) → setup_or_fault r c k o ≡ Ok q → length c ≡ point_count r.game.size → IsSized q.game
sized_begun r c k None q e fits =
    let same : record { game = begun_with r.game.size c k; turns = r.turns; node = r.node } ≡ q = cc in
    subst (λ (x : GameSoFar). IsSized x.game) same (alone r.game.size c fits)
sized_begun r c k (Some p) q e fits = let bad : Err _ ≡ Ok q = e in cc

-- so do sets put over the board
sized_set_up : (r : GameSoFar) (black white bare : PointNumberSet) (k : Colour) (o : Option ℕ) (q : GameSoFar) → set_up_or_fault r black white bare k o ≡ Ok q → IsSized q.game
sized_set_up r black white bare k None q e =
    let c = placed r.game.size r.game.present black white bare in
    sized_begun r c k (least_without_liberty r.game.size c) q e (length-placed r.game.size r.game.present black white bare)
sized_set_up r black white bare k (Some p) q e = let bad : Err _ ≡ Ok q = e in cc

sized_set_up_node : (r : GameSoFar) (n : Node) (q : GameSoFar) → set_up_node r n ≡ Ok q → IsSized q.game
sized_set_up_node r n q e =
    let black = step_made (read_set r.node r.game.size AB n) _ q e in
    let white = step_made (read_set r.node r.game.size AW n) _ q black.2 in
    let bare = step_made (read_set r.node r.game.size AE n) _ q white.2 in
    let k = step_made (read_mover r.node n) _ q bare.2 in
    sized_set_up r black.0 white.0 bare.0 k.0 (least_point (in_two_sets black.0 white.0 bare.0)) q k.2

-- ---- nodes

-- a node keeps an entry for each point
sized_step : (r : GameSoFar) (n : Node) (q : GameSoFar) → step_node r n ≡ Ok q → IsSized r.game → IsSized q.game
unfolding step_node
sized_step r n q e h = elim (either (is_setup n) _ _ _ e) [
  | inl setup ↦ elim (either (nat_le 1 (move_count n)) _ _ _ setup) [
    | inl mixed ↦ let bad : Err _ ≡ Ok q = mixed in cc
    | inr pure ↦ sized_set_up_node r n q pure
  ]
  | inr moves ↦ elim (either (nat_le 2 (move_count n)) _ _ _ moves) [
    | inl mixed ↦ let bad : Err _ ≡ Ok q = mixed in cc
    | inr pure ↦ sized_move r n.props (values_of B n.props) (values_of W n.props) q pure h
  ]
]

-- the empty board has an entry for each point
sized_empty : (o : Option Size) (q : GameSoFar) → empty_game_of_size o ≡ Ok q → IsSized q.game
sized_empty None q e = let bad : Err _ ≡ Ok q = e in cc
sized_empty (Some size) q e =
    let same : record { game = empty_game size; turns = 0; node = 0 } ≡ q = cc in
    subst (λ (x : GameSoFar). IsSized x.game) same (alone size (replicate (point_count size) None) (length-replicate (point_count size) None))

-- and so has the board with which a line begins
sized_begin : (ns : List Node) (q : GameSoFar) → empty_game_for_nodes ns ≡ Ok q → IsSized q.game
unfolding empty_game_for_root
sized_begin [] q e = sized_empty (sized 19 19) q e
sized_begin (n ∷ ns) q e = elim (either (is_go (values_of GM n.props)) _ _ _ e) [
  | inl go ↦ sized_empty (size_or_default (values_of SZ n.props)) q go
  | inr other ↦ let bad : Err _ ≡ Ok q = other in cc
]

-- ---- problems

-- the problem's state is one as the game has them
abbrev HasState : LineWithUndo → Type 0
HasState p = IsWellFormedState p.frame p.state

-- a problem posed in a game that fits its board has such a state
state_with : (s : GameState) (region targets : PointNumberSet) (o : Result Colour GameFault) (q : LineWithUndo)
    → and_then o (λ k. Ok (posed_problem s region targets k)) ≡ Ok q → IsSized s → HasState q
state_with s region targets (Err e) q h sized = let bad : Err _ ≡ Ok q = h in cc
state_with s region targets (Ok k) q h sized =
    let same : posed_problem s region targets k ≡ q = cc in
    subst HasState same (record { sized = sized; passes = omega arith })

state_stones : (r : GameSoFar) (region targets : PointNumberSet) (o : Option ℕ) (q : LineWithUndo) → problem_if_stones r region targets o ≡ Ok q → IsSized r.game → HasState q
state_stones r region targets None q e h = state_with r.game region targets _ q e h
state_stones r region targets (Some p) q e h = let bad : Err _ ≡ Ok q = e in cc

state_on : (r : GameSoFar) (region targets : PointNumberSet) (q : LineWithUndo) → problem_if_targets_valid r region targets ≡ Ok q → IsSized r.game → HasState q
state_on r region targets q e h = elim (either (nat_eq (set.len targets) 0) _ _ _ e) [
  | inl none ↦ let bad : Err _ ≡ Ok q = none in cc
  | inr some ↦ state_stones r region targets (least_with_entry targets r.game.present None) q some h
]

state_at : (r : GameSoFar) (n : Node) (q : LineWithUndo) → problem_at_node r n ≡ Ok q → IsSized r.game → HasState q
state_at r n q e h =
    let targets = step_made (read_set r.node r.game.size TR n) _ q e in
    let region = step_made (read_region r.node r.game.size n) _ q targets.2 in
    state_on r region.0 targets.0 q region.2 h

-- so has one that nodes come to
state_nodes : (k : ℕ) (r : GameSoFar) (ns : List Node) (q : LineWithUndo) → problem_at_targets k r ns ≡ Ok q → IsSized r.game → HasState q
unfolding problem_at_targets
state_nodes k r [] q e h = let bad : Err _ ≡ Ok q = e in cc
state_nodes k r (n ∷ ns) q e h =
    let made = step_made (step_node (at_node (k + 1) r) n) _ q e in
    let next = sized_step (at_node (k + 1) r) n made.0 made.1 h in
    elim (either (has TR n) _ _ _ made.2) [
      | inl marked ↦ state_at made.0 n q marked next
      | inr on ↦ state_nodes (k + 1) made.0 ns q on next
    ]

-- the state of a problem is one as the game has them
pub problem_state : ProblemsAreStates
unfolding problem_of
problem_state ns q e =
    let made = step_made (empty_game_for_nodes ns) _ q e in
    state_nodes 0 made.0 ns q made.2 (sized_begin ns made.0 made.1)
