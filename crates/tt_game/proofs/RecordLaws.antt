-- Records and problems by the rules: what their nodes keep true of the history, and where a refusal comes from.
use Rattle.std.proofs.Common.{◌≡◌, ◌≢◌, ℕ, ◌+◌, ◌<◌, ◌≤◌, ◌⊎◌, List, [], ◌∷◌, ◌++◌, length, suc, inl, inr, true, false, Option, Some, None, Ok, Err, refl, sym, ap, subst, ◌∙◌}
use Rattle.std.proofs.Common.{cond, ◌==◌, nat_eq, nat_le, arith, Contains}
use Rattle.std.specs.Prelude.{All, AllPairs}
use Rattle.std.specs.FinSet as set
use Rattle.std.specs.declared.result.Result.{Result}
use Rattle.std.proofs.lemmas.Bool.{false≢true}
use Rattle.std.proofs.lemmas.Bool.Decides.{nat_tests}
use Rattle.std.proofs.lemmas.List.Elements.{All-head, All-tail, Contains-get_or}
use Rattle.std.proofs.lemmas.List.Quantifiers.{all_pairs_push}
use Rattle.tt_sgf.specs.declared.size.Size.{Size}
use Rattle.tt_sgf.specs.declared.size.PointOrPass.{PointOrPass}
use Rattle.tt_sgf.specs.declared.nodes.Node.{Node}
use Rattle.tt_sgf.specs.declared.nodes.Property.{Property}
use Rattle.tt_sgf.specs.Sizes.{sized}
use Rattle.tt_sgf.specs.laws.SizeLaws.{sized_returns_size}
use Rattle.tt_sgf.specs.Values.{point_of, trimmed}
use Rattle.tt_board.specs.declared.Colour.{Colour}
use Rattle.tt_board.specs.declared.Colour.TheVariants.{Black, White}
use Rattle.tt_board.specs.Position.{Colouring}
use Rattle.tt_board.specs.Reach.{entry_at}
use Rattle.tt_board.specs.Play.{is_empty, same_colour}
use Rattle.tt_board.specs.Stones.{PointNumberSet}
use Rattle.tt_board.specs.Setup.{placed}
use Rattle.tt_game.specs.declared.faults.GameFault.{GameFault}
use Rattle.tt_game.specs.declared.faults.GameFault.TheVariants.{NoTarget}
use Rattle.tt_game.specs.declared.faults.Why.{Why}
use Rattle.tt_game.specs.declared.records.Record.{Record}
use Rattle.tt_game.specs.declared.records.GameSoFar.{GameSoFar}
use Rattle.tt_game.specs.declared.turns.Turn.{Turn}
use Rattle.tt_game.specs.declared.turns.Turn.TheVariants.{Play, Pass}
use Rattle.tt_game.specs.Game.{history}
use Rattle.tt_game.specs.Games.{GameState, game_colourings, begun_with, empty_game, colouring_after_move, refusal_of, game_after_turn}
use Rattle.tt_game.specs.Superko.{repeats, repeats_is_exact}
use Rattle.tt_game.specs.Line.{LineWithUndo}
use Rattle.tt_game.specs.Faults.{least_point, least_with_entry, least_without_liberty, read_mover, read_set}
use Rattle.tt_game.specs.Nodes.{AB, AE, AW, B, GM, SZ, TR, W, in_two_sets, has, is_go, is_setup, move_count, size_or_default, values_of}
use Rattle.tt_game.specs.Problems.{posed_problem, problem_of, problem_if_stones, problem_if_targets_valid, read_region, problem_at_node, problem_at_targets}
use Rattle.tt_game.specs.Records.{and_then, as_turn, at_node, empty_game_of_size, empty_game_for_nodes, empty_game_for_root, setup_or_fault, turn_or_fault}
use Rattle.tt_game.specs.Records.{play_node_move, record_of_game, record_of, apply_nodes, set_up_node, set_up_or_fault, step_node}
use Rattle.tt_game.specs.Records.{play_turn_by, play_named_turn, play_next_turn}
use Rattle.tt_game.specs.RecordLaws.{UnmarkedAreNoProblems}
use Rattle.tt_game.specs.RecordLaws.{AreMadeByPlays, IsByTheRules, IsFirstRefusal, IsMadeByPlay, FirstRefusalDecides, ProblemsAreGames}
use Rattle.tt_game.specs.RecordLaws.{RefusalsCarryToProblems, RecordsAreGames, SetupsBeginHistories, RepeatsTestIsExact}
use Rattle.tt_game.specs.Turns.{IsTurnOnBoardOfSize}
use Rattle.tt_game.proofs.FaultNodes.{begin_at, step_at, step_refused, value_on}
use Rattle.tt_game.proofs.OpenProblems.{choice, step_made}

-- ---- plays

-- the test of superko is true exactly where the colouring is in the history
pub repeats_test_is_exact : RepeatsTestIsExact
repeats_test_is_exact h c = ((repeats_is_exact h c).0, (repeats_is_exact h c).1)

-- one more play behind a history of plays
plays_on : (size : Size) (h : List Colouring) (c d : Colouring) → AreMadeByPlays size (h ++ c ∷ []) → IsMadeByPlay size c d → AreMadeByPlays size ((h ++ c ∷ []) ++ d ∷ [])
plays_on size [] c d are play = (play, tt)
plays_on size (a ∷ []) c d are play = (are.0, (play, tt))
plays_on size (a ∷ b ∷ h) c d are play = (are.0, plays_on size (b ∷ h) c d are.1 play)

-- a new colouring behind colourings of which none stands twice
once_more : (h : List Colouring) (d : Colouring) → AllPairs ◌≢◌ h → (Contains h d → ⊥) → AllPairs ◌≢◌ (h ++ d ∷ [])
once_more h d once fresh =
    all_pairs_push ◌≢◌ h d once (λ k x below e. fresh (subst (λ (y : Colouring). Contains h y) e (Contains-get_or h k x below)))

-- a history of one colouring is by the rules
alone : (size : Size) (c : Colouring) → IsByTheRules size (c ∷ [])
alone size c = record { plays = tt; once = λ i j d less below. absurd (omega (arith, less, below)) }

-- an entry that is empty
empty_entry : (o : Option Colour) → is_empty o ≡ true → o ≡ None
empty_entry None e = refl
empty_entry (Some k) e = absurd (false≢true e)

-- a lawful play is on an empty point, and its colouring is new
lawful : (s : GameState) (p : ℕ) → refusal_of s (Play p) ≡ None → (entry_at s.present p ≡ None) × (Contains (game_colourings s) (colouring_after_move s p) → ⊥)
lawful s p e = elim (choice (s.passes == 2) _ _ _ e) [
  | inl over ↦ let bad : Some _ ≡ None = over.1 in cc
  | inr on ↦ elim (choice (is_empty (entry_at s.present p)) _ _ _ on.1) [
    | inr stone ↦ let bad : Some _ ≡ None = stone.1 in cc
    | inl free ↦ elim (choice (repeats (game_colourings s) (colouring_after_move s p)) _ _ _ free.1) [
      | inl been ↦ let bad : Some _ ≡ None = been.1 in cc
      | inr new ↦ (empty_entry (entry_at s.present p) free.0, λ has. false≢true (sym new.0 ∙ (repeats_is_exact (game_colourings s) (colouring_after_move s p)).1 has))
    ]
  ]
]

-- ---- turns

-- the history is by the rules, and the turns are few
abbrev IsLawful : GameSoFar → Type 0
IsLawful r = IsByTheRules r.game.size (game_colourings r.game) × (r.turns ≤ 2000)

-- the history stays, or gets the present colouring at its end
abbrev Grows : GameSoFar → GameSoFar → Type 0
Grows r q = (game_colourings q.game ≡ game_colourings r.game) ⊎ (game_colourings q.game ≡ game_colourings r.game ++ q.game.present ∷ [])

-- what turns do to a replay
record GoesOn (r q : GameSoFar) : Type 0 where
  lawful : IsLawful r → IsLawful q
  grows : Grows r q

-- one more turn
abbrev after_turn : GameSoFar → Turn → GameSoFar
after_turn r t = record { game = game_after_turn r.game t; turns = r.turns + 1; node = r.node }

-- a turn that is taken is a lawful one, and the 2,000th at most
turn_made : (r : GameSoFar) (t : Turn) (q : GameSoFar) → play_next_turn r t ≡ Ok q → (refusal_of r.game t ≡ None) × (r.turns < 2000) × (after_turn r t ≡ q)
turn_made r t q e = elim (choice (r.game.passes == 2) _ _ _ e) [
  | inl over ↦ let bad : Err _ ≡ Ok q = over.1 in cc
  | inr on ↦ elim (choice (nat_le 2000 r.turns) _ _ _ on.1) [
    | inl many ↦ let bad : Err _ ≡ Ok q = many.1 in cc
    | inr few ↦ let made = gone (refusal_of r.game t) few.1 in (made.0, grind (arith, nat_tests, few.0), made.1)
  ]
]
  where
    gone : (o : Option Why) → turn_or_fault r t o ≡ Ok q → (o ≡ None) × (after_turn r t ≡ q)
    gone None h = let same : after_turn r t ≡ q = cc in (refl, same)
    gone (Some why) h = let bad : Err _ ≡ Ok q = h in cc

-- a lawful turn keeps a history by the rules and the count within 2,000
goes_on : (r : GameSoFar) (t : Turn) → IsTurnOnBoardOfSize r.game.size t → refusal_of r.game t ≡ None → r.turns < 2000 → GoesOn r (after_turn r t)
goes_on r Pass on taken few = record { lawful = λ h. (h.0, omega (arith, few)); grows = inl refl }
goes_on r (Play p) on taken few =
    let s = r.game in
    let free = lawful s p taken in
    record {
      lawful = λ h. (
        record {
          plays = plays_on s.size s.earlier s.present (colouring_after_move s p) h.0.plays (s.to_move, p, on, free.0, refl);
          once = once_more (game_colourings s) (colouring_after_move s p) h.0.once free.1;
        },
        omega (arith, few),
      );
      grows = inr refl;
    }

-- so does a turn that was taken
one_turn : (r : GameSoFar) (t : Turn) (q : GameSoFar) → IsTurnOnBoardOfSize r.game.size t → play_next_turn r t ≡ Ok q → GoesOn r q
one_turn r t q on e = let made = turn_made r t q e in subst (λ (x : GameSoFar). GoesOn r x) made.2 (goes_on r t on made.0 made.1)

-- and a turn of a colour, with the pass before it where that is needed
turns_by : (r : GameSoFar) (k : Colour) (t : Turn) (q : GameSoFar) → IsTurnOnBoardOfSize r.game.size t → play_turn_by r k t ≡ Ok q → GoesOn r q
turns_by r k t q on e = elim (choice (same_colour r.game.to_move k) _ _ _ e) [
  | inl its ↦ one_turn r t q on its.1
  | inr others ↦
      let passed = step_made (play_next_turn r Pass) (λ x. play_next_turn x t) q others.1 in
      let first = turn_made r Pass passed.0 passed.1 in
      let second : play_next_turn (after_turn r Pass) t ≡ Ok q = subst (λ (x : GameSoFar). play_next_turn x t ≡ Ok q) (sym first.2) passed.2 in
      let on_it = goes_on r Pass tt first.0 first.1 in
      let behind = one_turn (after_turn r Pass) t q on second in
      record { lawful = λ h. behind.lawful (on_it.lawful h); grows = behind.grows }
]

-- a turn by the value of its property does what turns do
turn_goes : (r : GameSoFar) (k : Colour) (f : GameFault) (text : List ℕ) (o : Option PointOrPass) (q : GameSoFar) → point_of r.game.size text ≡ o → play_named_turn r k f o ≡ Ok q → GoesOn r q
turn_goes r k f text None q is e = let bad : Err _ ≡ Ok q = e in cc
turn_goes r k f text (Some v) q is e = turns_by r k (as_turn v) q (value_on r.game.size text v is) e

-- so does a node's move, or none
move_goes : (r : GameSoFar) (ps : List Property) (vs ws : List (List ℕ)) (q : GameSoFar) → play_node_move r ps vs ws ≡ Ok q → GoesOn r q
move_goes r ps (v ∷ vs) ws q e = turn_goes r Black _ (trimmed v) (point_of r.game.size (trimmed v)) q refl e
move_goes r ps [] (w ∷ ws) q e = turn_goes r White _ (trimmed w) (point_of r.game.size (trimmed w)) q refl e
move_goes r ps [] [] q e =
    let same : r ≡ q = cc in
    subst (λ (x : GameSoFar). GoesOn r x) same (record { lawful = λ h. h; grows = inl refl })

-- ---- setup

-- what a setup does to a replay
record BeginsAnew (r q : GameSoFar) : Type 0 where
  lawful : IsLawful r → IsLawful q
  alone : game_colourings q.game ≡ q.game.present ∷ []

-- a colouring begins the history anew
begun_anew : (r : GameSoFar) (c : Colouring) (k : Colour) (o : Option ℕ) (q : GameSoFar) → setup_or_fault r c k o ≡ Ok q → BeginsAnew r q
begun_anew r c k None q e =
    let same : record { game = begun_with r.game.size c k; turns = r.turns; node = r.node } ≡ q = cc in
    subst (λ (x : GameSoFar). BeginsAnew r x) same (record { lawful = λ h. (alone r.game.size c, h.1); alone = refl })
begun_anew r c k (Some p) q e = let bad : Err _ ≡ Ok q = e in cc

-- so do sets put over the board
set_up_anew : (r : GameSoFar) (black white bare : PointNumberSet) (k : Colour) (o : Option ℕ) (q : GameSoFar) → set_up_or_fault r black white bare k o ≡ Ok q → BeginsAnew r q
set_up_anew r black white bare k None q e =
    let c = placed r.game.size r.game.present black white bare in begun_anew r c k (least_without_liberty r.game.size c) q e
set_up_anew r black white bare k (Some p) q e = let bad : Err _ ≡ Ok q = e in cc

-- so does a node's setup
node_anew : (r : GameSoFar) (n : Node) (q : GameSoFar) → set_up_node r n ≡ Ok q → BeginsAnew r q
node_anew r n q e =
    let black = step_made (read_set r.node r.game.size AB n) _ q e in
    let white = step_made (read_set r.node r.game.size AW n) _ q black.2 in
    let bare = step_made (read_set r.node r.game.size AE n) _ q white.2 in
    let k = step_made (read_mover r.node n) _ q bare.2 in
    set_up_anew r black.0 white.0 bare.0 k.0 (least_point (in_two_sets black.0 white.0 bare.0)) q k.2

-- ---- nodes

-- what a node does to a replay
node_does : (r : GameSoFar) (n : Node) (q : GameSoFar) → step_node r n ≡ Ok q → ((is_setup n ≡ true) × BeginsAnew r q) ⊎ ((is_setup n ≡ false) × GoesOn r q)
unfolding step_node
node_does r n q e = elim (choice (is_setup n) _ _ _ e) [
  | inl setup ↦ elim (choice (nat_le 1 (move_count n)) _ _ _ setup.1) [
    | inl mixed ↦ let bad : Err _ ≡ Ok q = mixed.1 in cc
    | inr pure ↦ inl (setup.0, node_anew r n q pure.1)
  ]
  | inr moves ↦ elim (choice (nat_le 2 (move_count n)) _ _ _ moves.1) [
    | inl mixed ↦ let bad : Err _ ≡ Ok q = mixed.1 in cc
    | inr pure ↦ inr (moves.0, move_goes r n.props (values_of B n.props) (values_of W n.props) q pure.1)
  ]
]

-- a setup begins the history anew, another node leaves it or adds one colouring
pub setups_begin : SetupsBeginHistories
setups_begin r q n e = elim (node_does r n q e) [
  | inl setup ↦ (λ _. setup.1.alone, λ not_. absurd (false≢true (sym not_ ∙ setup.0)))
  | inr move ↦ (λ is. absurd (false≢true (sym move.0 ∙ is)), λ _. move.1.grows)
]

-- a node keeps a history by the rules and the count within 2,000
node_lawful : (r : GameSoFar) (n : Node) (q : GameSoFar) → step_node r n ≡ Ok q → IsLawful r → IsLawful q
node_lawful r n q e h = elim (node_does r n q e) [ inl setup ↦ setup.1.lawful h | inr move ↦ move.1.lawful h ]

-- so do nodes one after another
run_lawful : (k : ℕ) (r : GameSoFar) (ns : List Node) (q : GameSoFar) → apply_nodes k r ns ≡ Ok q → IsLawful r → IsLawful q
unfolding apply_nodes
run_lawful k r [] q e h = let same : r ≡ q = cc in subst IsLawful same h
run_lawful k r (n ∷ ns) q e h =
    let made = step_made (step_node (at_node (k + 1) r) n) _ q e in
    run_lawful (k + 1) made.0 ns q made.2 (node_lawful (at_node (k + 1) r) n made.0 made.1 h)

-- the empty board begins a history by the rules
empty_lawful : (o : Option Size) (q : GameSoFar) → empty_game_of_size o ≡ Ok q → IsLawful q
empty_lawful None q e = let bad : Err _ ≡ Ok q = e in cc
empty_lawful (Some size) q e =
    let same : record { game = empty_game size; turns = 0; node = 0 } ≡ q = cc in
    subst IsLawful same (alone size (empty_game size).present, omega arith)

-- a line begins with a history by the rules
begin_lawful : (ns : List Node) (q : GameSoFar) → empty_game_for_nodes ns ≡ Ok q → IsLawful q
unfolding empty_game_for_root
begin_lawful [] q e = empty_lawful (sized 19 19) q e
begin_lawful (n ∷ ns) q e = elim (choice (is_go (values_of GM n.props)) _ _ _ e) [
  | inl go ↦ empty_lawful (size_or_default (values_of SZ n.props)) q go.1
  | inr other ↦ let bad : Err _ ≡ Ok q = other.1 in cc
]

-- the history of a record's game is by the rules
pub records_are_games : RecordsAreGames
records_are_games ns r e =
    let made = step_made (empty_game_for_nodes ns) _ r e in
    run_lawful 0 made.0 ns r made.2 (begin_lawful ns made.0 made.1)

-- ---- problems

-- a problem has the history of the game that it is posed in
record IsOfGame (s : GameState) (q : LineWithUndo) : Type 0 where
  size : s.size ≡ q.frame.size
  history : game_colourings s ≡ history q.state

-- a problem posed in a game has that game's history and size
of_game_with : (s : GameState) (region targets : PointNumberSet) (o : Result Colour GameFault) (q : LineWithUndo) → and_then o (λ k. Ok (posed_problem s region targets k)) ≡ Ok q → IsOfGame s q
of_game_with s region targets (Err e) q h = let bad : Err _ ≡ Ok q = h in cc
of_game_with s region targets (Ok k) q h =
    let same : posed_problem s region targets k ≡ q = cc in
    subst (λ (x : LineWithUndo). IsOfGame s x) same (record { size = refl; history = refl })

of_game_stones : (r : GameSoFar) (region targets : PointNumberSet) (o : Option ℕ) (q : LineWithUndo) → problem_if_stones r region targets o ≡ Ok q → IsOfGame r.game q
of_game_stones r region targets None q e = of_game_with r.game region targets _ q e
of_game_stones r region targets (Some p) q e = let bad : Err _ ≡ Ok q = e in cc

-- so has one posed on sets
of_game_on : (r : GameSoFar) (region targets : PointNumberSet) (q : LineWithUndo) → problem_if_targets_valid r region targets ≡ Ok q → IsOfGame r.game q
of_game_on r region targets q e = elim (choice (nat_eq (set.len targets) 0) _ _ _ e) [
  | inl none ↦ let bad : Err _ ≡ Ok q = none.1 in cc
  | inr some ↦ of_game_stones r region targets (least_with_entry targets r.game.present None) q some.1
]

-- and one that a node poses
of_game : (r : GameSoFar) (n : Node) (q : LineWithUndo) → problem_at_node r n ≡ Ok q → IsOfGame r.game q
of_game r n q e =
    let targets = step_made (read_set r.node r.game.size TR n) _ q e in
    let region = step_made (read_region r.node r.game.size n) _ q targets.2 in
    of_game_on r region.0 targets.0 q region.2

-- the history of a problem that nodes come to is by the rules
mark_lawful : (k : ℕ) (r : GameSoFar) (ns : List Node) (q : LineWithUndo) → problem_at_targets k r ns ≡ Ok q → IsLawful r → IsByTheRules q.frame.size (history q.state)
unfolding problem_at_targets
mark_lawful k r [] q e h = let bad : Err _ ≡ Ok q = e in cc
mark_lawful k r (n ∷ ns) q e h =
    let made = step_made (step_node (at_node (k + 1) r) n) _ q e in
    let next = node_lawful (at_node (k + 1) r) n made.0 made.1 h in
    elim (choice (has TR n) _ _ _ made.2) [
      | inl marked ↦
          let of = of_game made.0 n q marked.1 in
          subst (λ (x : Size). IsByTheRules x (history q.state)) of.size
          (subst (λ (x : List Colouring). IsByTheRules made.0.game.size x) of.history next.0)
      | inr on ↦ mark_lawful (k + 1) made.0 ns q on.1 next
    ]

-- a problem's history is by the rules
pub problems_are_games : ProblemsAreGames
unfolding problem_of
problems_are_games ns q e =
    let made = step_made (empty_game_for_nodes ns) _ q e in
    mark_lawful 0 made.0 ns q made.2 (begin_lawful ns made.0 made.1)

-- ---- refusals

-- the node at which a run behind k nodes is refused, and what the nodes before it came to
record StopsAt (k : ℕ) (r : GameSoFar) (ns : List Node) (e : GameFault) : Type 0 where
  front : List Node
  node : Node
  behind : List Node
  last : GameSoFar
  parts : ns ≡ front ++ node ∷ behind
  taken : apply_nodes k r front ≡ Ok last
  refused : step_node (at_node (k + length front + 1) last) node ≡ Err e

-- a refused run stops at a node: the ones before it came to something, and it was refused
stops_at : (k : ℕ) (r : GameSoFar) (ns : List Node) (e : GameFault) → apply_nodes k r ns ≡ Err e → StopsAt k r ns e
unfolding apply_nodes
stops_at k r [] e h = let bad : Ok r ≡ Err e = h in cc
stops_at k r (n ∷ ns) e h = elim (step_refused (step_node (at_node (k + 1) r) n) _ e h) [
  | inl here ↦ record {
    front = [];
    node = n;
    behind = ns;
    last = r;
    parts = refl;
    taken = refl;
    refused = ap (λ j. step_node (at_node j r) n) (let same : k + 0 + 1 ≡ k + 1 = omega arith in same) ∙ here;
  }
  | inr on ↦
      let later = stops_at (k + 1) on.0 ns e on.2 in
      record {
        front = n ∷ later.front;
        node = later.node;
        behind = later.behind;
        last = later.last;
        parts = ap (λ (x : List Node). n ∷ x) later.parts;
        taken = ap (λ x. and_then x (λ q. apply_nodes (k + 1) q later.front)) on.1 ∙ later.taken;
        refused = ap (λ j. step_node (at_node j later.last) later.node) (let same : k + suc (length later.front) + 1 ≡ k + 1 + length later.front + 1 = omega arith in same) ∙ later.refused;
      }
]

-- a run over nodes goes on from what the first of them came to
run_on : (k : ℕ) (r : GameSoFar) (front ns : List Node) (q : GameSoFar) → apply_nodes k r front ≡ Ok q → apply_nodes k r (front ++ ns) ≡ apply_nodes (k + length front) q ns
unfolding apply_nodes
run_on k r [] ns q e = let same : r ≡ q = cc in ap (λ (x : GameSoFar). apply_nodes k x ns) same ∙ ap (λ j. apply_nodes j q ns) (let none : k ≡ k + 0 = omega arith in none)
run_on k r (n ∷ front) ns q e =
    let made = step_made (step_node (at_node (k + 1) r) n) _ q e in
    ap (λ x. and_then x (λ s. apply_nodes (k + 1) s (front ++ ns))) made.1 ∙ run_on (k + 1) made.0 front ns q made.2
    ∙ ap (λ j. apply_nodes j q ns) (let same : k + 1 + length front ≡ k + suc (length front) = omega arith in same)

-- a node that is refused ends a run
ends_run : (k : ℕ) (q : GameSoFar) (n : Node) (ns : List Node) (e : GameFault) → step_node (at_node (k + 1) q) n ≡ Err e → apply_nodes k q (n ∷ ns) ≡ Err e
unfolding apply_nodes
ends_run k q n ns e h = ap (λ x. and_then x (λ s. apply_nodes (k + 1) s ns)) h

-- the record of nodes, where the begin of the line is known
record_begun : (ns : List Node) (r : GameSoFar) → empty_game_for_nodes ns ≡ Ok r → record_of ns ≡ and_then (apply_nodes 0 r ns) (λ q. Ok (record_of_game q.game))
unfolding record_of
record_begun ns r e = ap (λ x. and_then x (λ s. and_then (apply_nodes 0 s ns) (λ q. Ok (record_of_game q.game)))) e

-- a record that isn't begun is refused
pub never_begun : (ns : List Node) (e : GameFault) → empty_game_for_nodes ns ≡ Err e → record_of ns ≡ Err e
unfolding record_of
never_begun ns e h = ap (λ x. and_then x (λ s. and_then (apply_nodes 0 s ns) (λ q. Ok (record_of_game q.game)))) h

-- the board of a line that names no size
common_size : Size
common_size = record { columns = 19; rows = 19; columns_in = (omega arith, omega arith); rows_in = (omega arith, omega arith) }

-- the record without a node
pub empty_record : (r : Record) × (record_of [] ≡ Ok r)
unfolding record_of apply_nodes common_size
empty_record = (
  record_of_game (empty_game common_size),
  ap (λ o. and_then (empty_game_of_size o) (λ r. and_then (apply_nodes 0 r []) (λ q. Ok (record_of_game q.game)))) (sized_returns_size common_size),
)

-- a line without a node is never refused
pub never_empty : (e : GameFault) → record_of [] ≡ Err e → ⊥
never_empty e h = let r = empty_record in let bad : Ok r.0 ≡ Err e = sym r.1 ∙ h in cc

-- a line begins by its first node alone
pub begins_alike : (front : List Node) (n : Node) (ns others : List Node) → empty_game_for_nodes (front ++ n ∷ others) ≡ empty_game_for_nodes (front ++ n ∷ ns)
begins_alike [] n ns others = refl
begins_alike (m ∷ front) n ns others = refl

-- the nodes before a refused one are a record
pub front_taken : (front : List Node) (n : Node) (ns : List Node) (r q : GameSoFar) → empty_game_for_nodes (front ++ n ∷ ns) ≡ Ok r
    → apply_nodes 0 r front ≡ Ok q → (s : Record) × (record_of front ≡ Ok s)
front_taken [] n ns r q begins runs = empty_record
front_taken (m ∷ front) n ns r q begins runs =
    (record_of_game q.game, record_begun (m ∷ front) r begins ∙ ap (λ x. and_then x (λ s. Ok (record_of_game s.game))) runs)

-- where a run stops, the record stops
least_of : (ns : List Node) (r : GameSoFar) (e : GameFault) → empty_game_for_nodes ns ≡ Ok r → StopsAt 0 r ns e → IsFirstRefusal ns e
least_of ns r e begins stop =
    let begins_so : empty_game_for_nodes (stop.front ++ stop.node ∷ stop.behind) ≡ Ok r = ap empty_game_for_nodes (sym stop.parts) ∙ begins in
    let taken = front_taken stop.front stop.node stop.behind r stop.last begins_so stop.taken in
    record {
      front = stop.front;
      node = stop.node;
      behind = stop.behind;
      score = taken.0;
      parts = stop.parts;
      taken = taken.1;
      at = step_at (at_node (0 + length stop.front + 1) stop.last) e stop.node stop.refused ∙ ap Some (let same : 0 + length stop.front + 1 ≡ length stop.front + 1 = omega arith in same);
      refused = λ others.
          let run = run_on 0 r stop.front (stop.node ∷ others) stop.last stop.taken ∙ ends_run (0 + length stop.front) stop.last stop.node others e stop.refused in
          record_begun (stop.front ++ stop.node ∷ others) r (begins_alike stop.front stop.node stop.behind others ∙ begins_so)
          ∙ ap (λ x. and_then x (λ s. Ok (record_of_game s.game))) run;
    }

-- a record is refused before its first node, or by a run
pub refused_by : (ns : List Node) (e : GameFault) → record_of ns ≡ Err e → (empty_game_for_nodes ns ≡ Err e) ⊎ ((r : GameSoFar) × (empty_game_for_nodes ns ≡ Ok r) × (apply_nodes 0 r ns ≡ Err e))
unfolding record_of
refused_by ns e h = elim (step_refused (empty_game_for_nodes ns) _ e h) [
  | inl never ↦ inl never
  | inr on ↦ elim (step_refused (apply_nodes 0 on.0 ns) _ e on.2) [
    | inl stops ↦ inr (on.0, on.1, stops)
    | inr ends ↦ let bad : Ok (record_of_game ends.0.game) ≡ Err e = ends.2 in cc
  ]
]

-- a refusal is that of the record's least node that has one
pub first_refusal_decides : FirstRefusalDecides
first_refusal_decides [] e h = absurd (never_empty e h)
first_refusal_decides (m ∷ ms) e h = elim (refused_by (m ∷ ms) e h) [
  | inl never ↦ record {
    front = [];
    node = m;
    behind = ms;
    score = empty_record.0;
    parts = refl;
    taken = empty_record.1;
    at = begin_at (m ∷ ms) e never;
    refused = λ others. never_begun (m ∷ others) e never;
  }
  | inr on ↦ least_of (m ∷ ms) on.0 e on.1 (stops_at 0 on.0 (m ∷ ms) e on.2)
]

-- a run that is refused before a mark is refused on the way to the mark
mark_refused : (k : ℕ) (r : GameSoFar) (ns behind : List Node) (e : GameFault) → All (λ n. has TR n ≡ false) ns → apply_nodes k r ns ≡ Err e → problem_at_targets k r (ns ++ behind) ≡ Err e
unfolding apply_nodes problem_at_targets
mark_refused k r [] behind e unmarked h = let bad : Ok r ≡ Err e = h in cc
mark_refused k r (n ∷ ns) behind e unmarked h =
    let go = λ (q : GameSoFar). cond (has TR n) (problem_at_node q n) (problem_at_targets (k + 1) q (ns ++ behind)) in
    elim (step_refused (step_node (at_node (k + 1) r) n) _ e h) [
      | inl here ↦ ap (λ x. and_then x go) here
      | inr on ↦
          ap (λ x. and_then x go) on.1
          ∙ ap (λ b. cond b (problem_at_node on.0 n) (problem_at_targets (k + 1) on.0 (ns ++ behind))) (All-head (λ m. has TR m ≡ false) n ns unmarked)
          ∙ mark_refused (k + 1) on.0 ns behind e (All-tail (λ m. has TR m ≡ false) n ns unmarked) on.2
    ]

-- a record that is refused and marks no target is refused as a problem too, whatever follows
pub refusals_carry_to_problems : RefusalsCarryToProblems
unfolding problem_of
refusals_carry_to_problems [] behind e unmarked h = absurd (never_empty e h)
refusals_carry_to_problems (m ∷ ms) behind e unmarked h =
    let go = λ (r : GameSoFar). problem_at_targets 0 r ((m ∷ ms) ++ behind) in
    elim (refused_by (m ∷ ms) e h) [
      | inl never ↦ ap (λ x. and_then x go) never
      | inr on ↦ ap (λ x. and_then x go) on.1 ∙ mark_refused 0 on.0 (m ∷ ms) behind e unmarked on.2
    ]

-- nodes without a mark come to the end of the way to the mark
mark_missing : (k : ℕ) (r q : GameSoFar) (ns : List Node) → All (λ n. has TR n ≡ false) ns → apply_nodes k r ns ≡ Ok q → problem_at_targets k r ns ≡ Err NoTarget
unfolding apply_nodes problem_at_targets
mark_missing k r q [] unmarked h = refl
mark_missing k r q (n ∷ ns) unmarked h =
    let go = λ (x : GameSoFar). cond (has TR n) (problem_at_node x n) (problem_at_targets (k + 1) x ns) in
    let on = step_made (step_node (at_node (k + 1) r) n) _ q h in
    ap (λ x. and_then x go) on.1
    ∙ ap (λ b. cond b (problem_at_node on.0 n) (problem_at_targets (k + 1) on.0 ns)) (All-head (λ m. has TR m ≡ false) n ns unmarked)
    ∙ mark_missing (k + 1) on.0 q ns (All-tail (λ m. has TR m ≡ false) n ns unmarked) on.2

-- nodes that come to a game and mark no target are no problem
pub unmarked_are_no_problems : UnmarkedAreNoProblems
unfolding problem_of
unmarked_are_no_problems nodes r unmarked h =
    let on = step_made (empty_game_for_nodes nodes) _ r h in
    ap (λ x. and_then x (λ q. problem_at_targets 0 q nodes)) on.1 ∙ mark_missing 0 on.0 r nodes unmarked on.2
