-- Laws of records and problems, in the words of the game.
use Rattle.std.specs.Prelude.{◌≡◌, ◌≢◌, ℕ, ◌<◌, ◌≤◌, ◌⊎◌, ◌↔◌, List, [], ◌∷◌, ◌++◌, ◌+◌, length, Option, Some, All, AllPairs, Contains, None, Ok, Err, Bool, true, false, cond, ◌||◌, ◌==◌}
use Rattle.std.specs.Option.{is_some}
use Rattle.std.specs.FinSet as set
use lib.Pointwise.{pointwise}
use Rattle.tt_sgf.specs.declared.size.Size.{Size}
use Rattle.tt_sgf.specs.declared.nodes.Node.{Node}
use Rattle.tt_sgf.specs.declared.nodes.Property.{Property}
use Rattle.tt_sgf.specs.PointLists.{is_entry}
use Rattle.tt_sgf.specs.Sizes.{point_count, sized}
use Rattle.tt_sgf.specs.Values.{after_blanks, point_of, trimmed}
use Rattle.tt_board.specs.declared.Colour.{Colour}
use Rattle.tt_board.specs.Position.{Colouring}
use Rattle.tt_board.specs.Reach.{entry_at}
use Rattle.tt_board.specs.Play.{play_of}
use Rattle.tt_game.specs.declared.faults.GameFault.{GameFault}
use Rattle.tt_game.specs.declared.faults.GameFault.TheVariants.{BadValue, NoTarget}
use Rattle.tt_game.specs.declared.records.Record.{Record}
use Rattle.tt_game.specs.declared.records.GameSoFar.{GameSoFar}
use Rattle.tt_game.specs.declared.records.TheConstants.{MOST_TURNS}
use Rattle.tt_game.specs.Faults.{fault_node, fault_point}
use Rattle.tt_game.specs.Game.{history}
use Rattle.tt_game.specs.Games.{game_colourings}
use Rattle.tt_game.specs.Superko.{repeats}
use Rattle.tt_game.specs.Line.{LineWithUndo}
use Rattle.tt_game.specs.Nodes.{AB, AE, AW, B, PL, SQ, SZ, TR, W, colour_of_letter, has, is_setup, size_or_default, values_of}
use Rattle.tt_game.specs.Problems.{problem_of}
use Rattle.tt_game.specs.Records.{and_then, empty_game_for_nodes, record_of, apply_nodes, step_node}

-- d is what a play on an empty point of c makes
abbrev pub IsMadeByPlay : Size → Colouring → Colouring → Type 0
IsMadeByPlay size c d = (k : Colour) × (p : ℕ) × (p < point_count size) × (entry_at c p ≡ None) × (d ≡ play_of size c k p)

-- each colouring but the first is what a play makes of the one before it
abbrev pub AreMadeByPlays : Size → List Colouring → Type 0
AreMadeByPlays size [] = Unit {0}
AreMadeByPlays size (c ∷ []) = Unit {0}
AreMadeByPlays size (c ∷ d ∷ h) = IsMadeByPlay size c d × AreMadeByPlays size (d ∷ h)

-- a history by the rules: plays lead from each colouring to the next, and none stands in it twice
pub record IsByTheRules (size : Size) (h : List Colouring) : Type 0 where
  pub plays : AreMadeByPlays size h
  pub once : AllPairs ◌≢◌ h

-- the game and the count of turns that a record's nodes come to
abbrev pub ComesTo : List Node → GameSoFar → Type 0
ComesTo nodes r = and_then (empty_game_for_nodes nodes) (λ q. apply_nodes 0 q nodes) ≡ Ok r

-- the history of a record's game is by the rules, and its turns, implied passes among them, are no more than a record has
abbrev pub RecordsAreGames : Type 0
RecordsAreGames = (nodes : List Node) (r : GameSoFar) → ComesTo nodes r → IsByTheRules r.game.size (game_colourings r.game) × (r.turns ≤ MOST_TURNS)

-- a problem's history is by the rules
abbrev pub ProblemsAreGames : Type 0
ProblemsAreGames = (nodes : List Node) (p : LineWithUndo) → problem_of nodes ≡ Ok p → IsByTheRules p.frame.size (history p.state)

-- on each target of a problem stands a stone of the defender
abbrev pub TargetsAreTheDefenders : Type 0
TargetsAreTheDefenders = (nodes : List Node) (p : LineWithUndo) → problem_of nodes ≡ Ok p
    → (q : ℕ) → set.contains p.frame.targets q ≡ true → entry_at p.state.present q ≡ Some p.frame.defender

-- a setup begins the history anew, with one colouring; another node leaves it, or a play adds the present one at its end
abbrev pub SetupsBeginHistories : Type 0
SetupsBeginHistories = (r q : GameSoFar) (n : Node) → step_node r n ≡ Ok q
    → (is_setup n ≡ true → game_colourings q.game ≡ q.game.present ∷ [])
    × (is_setup n ≡ false → (game_colourings q.game ≡ game_colourings r.game) ⊎ (game_colourings q.game ≡ game_colourings r.game ++ q.game.present ∷ []))

-- a record's refusal is that of its least node that has one, and names it: the nodes before it are a record, with it they are
-- refused, and what stands behind it changes nothing
pub record IsFirstRefusal (nodes : List Node) (e : GameFault) : Type 0 where
  pub front : List Node
  pub node : Node
  pub behind : List Node
  pub score : Record
  pub parts : nodes ≡ front ++ node ∷ behind
  pub taken : record_of front ≡ Ok score
  pub at : fault_node e ≡ Some (length front + 1)
  pub refused : (others : List Node) → record_of (front ++ node ∷ others) ≡ Err e

-- each refusal of a record is that of its least node that has one
abbrev pub FirstRefusalDecides : Type 0
FirstRefusalDecides = (nodes : List Node) (e : GameFault) → record_of nodes ≡ Err e → IsFirstRefusal nodes e

-- a problem's refusal is that of its least node that has one, and names it: no node before it marks a target, those nodes are a
-- record, with it they are refused, and what stands behind it changes nothing
pub record IsFirstProblemRefusal (nodes : List Node) (e : GameFault) : Type 0 where
  pub front : List Node
  pub node : Node
  pub behind : List Node
  pub score : Record
  pub parts : nodes ≡ front ++ node ∷ behind
  pub unmarked : All (λ n. has TR n ≡ false) front
  pub taken : record_of front ≡ Ok score
  pub at : fault_node e ≡ Some (length front + 1)
  pub refused : (others : List Node) → problem_of (front ++ node ∷ others) ≡ Err e

-- each refusal of a problem is that of its least node that has one; that there is no target is known behind the last node
abbrev pub FirstProblemRefusalDecides : Type 0
FirstProblemRefusalDecides = (nodes : List Node) (e : GameFault) → e ≢ NoTarget → problem_of nodes ≡ Err e → IsFirstProblemRefusal nodes e

-- where a record is refused, and no node of it marks a target, the problem of a main line that begins so is refused alike
abbrev pub RefusalsCarryToProblems : Type 0
RefusalsCarryToProblems = (nodes behind : List Node) (e : GameFault) → All (λ n. has TR n ≡ false) nodes → record_of nodes ≡ Err e
    → problem_of (nodes ++ behind) ≡ Err e

-- where the nodes come to a game, and none marks a target, they are no problem: a target is wanted
abbrev pub UnmarkedAreNoProblems : Type 0
UnmarkedAreNoProblems = (nodes : List Node) (r : GameSoFar) → All (λ n. has TR n ≡ false) nodes → ComesTo nodes r → problem_of nodes ≡ Err NoTarget

-- the test of superko is true exactly where the colouring is in the history
abbrev pub RepeatsTestIsExact : Type 0
RepeatsTestIsExact = (h : List Colouring) (c : Colouring) → (repeats h c ≡ true) ↔ Contains h c

-- ---- what is at fault

-- a main line is refused, as a record or as a problem
abbrev pub IsRefused : List Node → GameFault → Type 0
IsRefused nodes e = (record_of nodes ≡ Err e) ⊎ (problem_of nodes ≡ Err e)

-- the size that the first node gives; without a node 19 by 19
abbrev pub size_of_nodes : List Node → Option Size
size_of_nodes [] = sized 19 19
size_of_nodes (n ∷ ns) = size_or_default (values_of SZ n.props)

-- a value is read by the rule of the property with this name: a move by B or W, a colour by PL, an entry of a point list by any other
abbrev pub is_read : Size → List ℕ → List ℕ → Bool
is_read size name v = cond (pointwise ◌==◌ name B || pointwise ◌==◌ name W) (is_some (point_of size (trimmed v)))
    (cond (pointwise ◌==◌ name PL) (is_some (colour_of_letter (after_blanks v))) (is_entry size v))

-- value j of property i of the node isn't read by the rule of that property, and each value before it under the same name is
pub record IsFirstUnread (size : Size) (n : Node) (i j : ℕ) : Type 0 where
  pub front : List Property
  pub property : Property
  pub behind : List Property
  pub values_before : List (List ℕ)
  pub value : List ℕ
  pub values_behind : List (List ℕ)
  pub properties : n.props ≡ front ++ property ∷ behind
  pub index : i ≡ length front
  pub values : property.values ≡ values_before ++ value ∷ values_behind
  pub value_index : j ≡ length values_before
  pub named : Contains (B ∷ W ∷ AB ∷ AW ∷ AE ∷ PL ∷ TR ∷ SQ ∷ []) property.ident
  pub unread : is_read size property.ident value ≡ false
  pub read_before : All (λ v. is_read size property.ident v ≡ true) values_before
  pub read_in_front : All (λ p. p.ident ≡ property.ident → All (λ v. is_read size property.ident v ≡ true) p.values) front

-- so it is in node k of a main line, which counts from 1
pub record HasFirstUnread (nodes : List Node) (k i j : ℕ) : Type 0 where
  pub size : Size
  pub front : List Node
  pub node : Node
  pub behind : List Node
  pub size_is : size_of_nodes nodes ≡ Some size
  pub parts : nodes ≡ front ++ node ∷ behind
  pub number : k ≡ length front + 1
  pub unread : IsFirstUnread size node i j

-- a value that a refusal says can't be read is there, and can't be read
abbrev pub BadValuesAreThere : Type 0
BadValuesAreThere = (nodes : List Node) (k i j : ℕ) → IsRefused nodes (BadValue k i j) → HasFirstUnread nodes k i j

-- a point at fault is on the board
abbrev pub FaultPointsAreOnBoard : Type 0
FaultPointsAreOnBoard = (nodes : List Node) (e : GameFault) (p : ℕ) → IsRefused nodes e → fault_point e ≡ Some p
    → (size : Size) × (size_of_nodes nodes ≡ Some size) × (p < point_count size)
