-- What the game trees that are written are when they are read.
use Rattle.std.specs.Prelude.{◌≡◌, ◌⊎◌, ◌<◌, ◌≤◌, ◌+◌, ◌-◌, ◌*◌, ◌++◌, ◌==◌}
use Rattle.std.specs.Prelude.{ℕ, Bool, true, false, not, Contains, List, [], ◌∷◌, codes, drop, length, take, slice_get, Ok, Err, Option, None, Some, MatchOption, if◌then◌else◌}
use Rattle.std.specs.List.{list_any}
use Rattle.std.specs.declared.result.Result.{Result}
use Rattle.std.specs.FinSet as set
use Rattle.tt_sgf.specs.declared.nodes.Node.{Node}
use Rattle.tt_sgf.specs.declared.nodes.Property.{Property}
use Rattle.tt_sgf.specs.declared.size.Size.{Size}
use Rattle.tt_sgf.specs.declared.trees.TheConstants.{MAX_BYTES}
use Rattle.tt_sgf.specs.Bytes.{close_tree, newline, open_tree}
use Rattle.tt_sgf.specs.Sizes.{point_count}
use Rattle.tt_sgf.specs.Grammar.{GameTree, FirstTreeEndsAt, HasOpeningParenthesis, main_line}
use Rattle.tt_board.specs.declared.Colour.{Colour}
use Rattle.tt_board.specs.declared.Colour.TheVariants.{Black, White}
use Rattle.tt_board.specs.Play.{other}
use Rattle.tt_board.specs.Position.{Colouring}
use Rattle.tt_board.specs.Reach.{entry_at}
use Rattle.tt_board.specs.Stones.{PointNumberSet}
use Rattle.tt_game.specs.declared.faults.GameFault.{GameFault}
use Rattle.tt_game.specs.declared.frame.Frame.{Frame}
use Rattle.tt_game.specs.declared.frame.Side.{Side}
use Rattle.tt_game.specs.Games.{GameState}
use Rattle.tt_game.specs.Line.{LineWithUndo}
use Rattle.tt_game.specs.Nodes.{AB, AW, PL, SQ, TR, has}
use Rattle.tt_game.specs.Problems.{game_of, node_count_before_solution, posed_problem, problem_of, side_of}
use Rattle.tt_marks.specs.Closings.{ClosesWall, with_stones}
use Rattle.tt_marks.specs.Walls.{HasOtherStone, IsEnclosedGroup, IsInner, IsWalledIn}
use Rattle.tsumego_show.specs.declared.reading_back.TheConstants.{MOST_ANSWER}
use Rattle.tsumego_show.specs.declared.tree_bytes.TheConstants.{MOST_MORE}
use Rattle.tsumego_show.specs.declared.mode.Mode.{Mode}
use Rattle.tsumego_show.specs.declared.mode.Mode.TheVariants.{Picture, Diagram, Marks, Variations}
use Rattle.tsumego_show.specs.declared.mode.PointName.{PointName}
use Rattle.tsumego_show.specs.declared.mode.PointName.TheVariants.{FromAbove, FromBelow}
use Rattle.tsumego_show.specs.declared.mode.WantedMarks.{WantedMarks}

-- a text begins with a tree, which ends behind so many bytes, and no other may follow
abbrev pub IsOneTree : List ℕ → ℕ → GameTree → Type 0
IsOneTree text count t = (ends : FirstTreeEndsAt text count t) × (ends.skipped ≡ []) × (HasOpeningParenthesis (drop count text) → ⊥)

-- a text is one tree, which is this problem
abbrev pub IsProblemText : List ℕ → LineWithUndo → Type 0
IsProblemText text q = (count : ℕ) × (t : GameTree) × IsOneTree text count t × (problem_of (main_line t) ≡ Ok q)

-- a text, if it isn't too long to be read, is the problem p, with the same frame, board, history and side to move
abbrev pub IsTextOf : List ℕ → LineWithUndo → Type 0
IsTextOf text p = length text ≤ MAX_BYTES → (q : LineWithUndo) × IsProblemText text q × (q.frame ≡ p.frame) × (q.state ≡ p.state)

-- A text is the problem p with variations, for a tree with these bytes. What stands in front of the variations, with the end of the tree
-- behind it, is the problem too, and has no more bytes than were given and an answer may have.
abbrev pub IsTextWithVariations : List ℕ → List ℕ → LineWithUndo → Type 0
IsTextWithVariations given text p = IsTextOf text p × ((front : List ℕ) × (variations : List ℕ) × (text ≡ front ++ variations)
    × (length front ≤ length given + MOST_ANSWER) × IsTextOf (front ++ (close_tree ∷ [])) p)

-- A text, if it isn't too long to be read, is a problem with this frame, these stones and this side to move. Nothing stood before, as behind
-- any setup.
abbrev pub IsSetupText : List ℕ → Frame → Colouring → Side → Type 0
IsSetupText text f stones side = length text ≤ MAX_BYTES → (q : LineWithUndo) × IsProblemText text q × (q.frame ≡ f)
    × (q.state ≡ record { earlier = []; present = stones; to_move = side; passes = 0 })

-- the one target of marks
abbrev pub target : ℕ → PointNumberSet
target q = set.insert set.empty q

-- a point of the board has this name
abbrev pub HasName : Size → PointName → ℕ → Type 0
HasName s (FromAbove column row) q = (column < s.columns) × (row < s.rows) × (q ≡ row * s.columns + column)
HasName s (FromBelow column row) q = (column < s.columns) × (1 ≤ row) × (row ≤ s.rows) × (q ≡ (s.rows - row) * s.columns + column)

-- a point is the one that is named, if one is
abbrev pub IsMeant : Size → Option PointName → ℕ → Type 0
IsMeant s None q = Unit {0}
IsMeant s (Some name) q = HasName s name q

-- where nobody names a stone, no more empty points are in the squares than outside
abbrev pub IsInnerUnlessNamed : Option PointName → Size → Colouring → PointNumberSet → Type 0
IsInnerUnlessNamed None s c squares = IsInner s c squares
IsInnerUnlessNamed (Some name) s c squares = Unit {0}

-- the stone on q marks no group: its group isn't enclosed or, where nobody names the stone, its region isn't inner
abbrev pub MarksNoGroup : Option PointName → Size → Colouring → ℕ → Type 0
MarksNoGroup name s c q = (k : Colour) (squares : PointNumberSet) → IsEnclosedGroup s c k q squares → IsInnerUnlessNamed name s c squares → ⊥

-- no stone that may be meant marks a group
abbrev pub HasNoGroup : Option PointName → Size → Colouring → Type 0
HasNoGroup name s c = (q : ℕ) → IsMeant s name q → MarksNoGroup name s c q

-- what is taken for the stone that is meant: one that may be meant, and marks a group if any of those does; or none, where none does
abbrev pub IsTaken : Option PointName → Size → Colouring → Option ℕ → Type 0
IsTaken name s c found = MatchOption found (HasNoGroup name s c) (λ p. (p < point_count s) × IsMeant s name p × (MarksNoGroup name s c p → HasNoGroup name s c))

-- a text is the game with a triangle on q and with squares that mark the group of its stone, all else as it was
abbrev pub IsEnclosedText : Option PointName → List ℕ → GameState → ℕ → Type 0
IsEnclosedText name text g q = (k : Colour) × (squares : PointNumberSet) × IsEnclosedGroup g.size g.present k q squares × IsInnerUnlessNamed name g.size g.present squares
    × IsTextOf text (posed_problem g squares (target q) k)

-- where nobody names a stone, one more of colour k is of its group or in the squares
abbrev pub IsNotLoneUnlessNamed : Option PointName → Size → Colouring → Colour → ℕ → PointNumberSet → Type 0
IsNotLoneUnlessNamed None s c k q squares = HasOtherStone s c k q squares
IsNotLoneUnlessNamed (Some name) s c k q squares = Unit {0}

-- a text is the game with more stones, which close the wall around the group of the stone on q where it is neither enclosed nor walled in, with
-- such marks too, and who moves stays
abbrev pub IsClosedText : Option PointName → List ℕ → GameState → ℕ → Type 0
IsClosedText name text g q = (k : Colour) × (squares : PointNumberSet) × (stones : PointNumberSet)
    × ((marked : PointNumberSet) → IsEnclosedGroup g.size g.present k q marked → ⊥) × (IsWalledIn g.size g.present k q → ⊥)
    × ClosesWall g.size g.present k q stones squares × IsNotLoneUnlessNamed name g.size g.present k q squares
    × IsSetupText text (record { size = g.size; region = squares; targets = target q; defender = k }) (with_stones g.size g.present (other k) stones) (side_of k g.to_move)

-- the bytes from the first `(` on
abbrev pub from_open : List ℕ → List ℕ
from_open [] = []
from_open (b ∷ bs) = if b == open_tree then b ∷ bs else from_open bs

-- the bytes of a tree as they were given, and a newline
abbrev pub as_given : List ℕ → List ℕ
as_given given = given ++ (newline ∷ [])

-- the nodes of a main line but those of a solution
abbrev pub asking_nodes : List Node → List Node
asking_nodes nodes = take (node_count_before_solution false nodes) nodes

-- the names of properties, in order
abbrev pub property_names : List Property → List (List ℕ)
property_names [] = []
property_names (p ∷ ps) = p.ident ∷ property_names ps

-- the property of a comment
abbrev pub C : List ℕ
C = codes "C"

-- the property that adds stones of a colour
abbrev pub name_of_stones : Colour → List ℕ
name_of_stones Black = AB
name_of_stones White = AW

-- a node is another one with triangles and squares in front, and nothing else
abbrev pub IsNodeWithMarks : Node → Node → Type 0
IsNodeWithMarks given read = (marks : List Property) × (property_names marks ≡ TR ∷ SQ ∷ []) × (read.props ≡ marks ++ given.props)

-- a node adds stones of this colour, and has the side to move, triangles, squares and a comment, and nothing else
abbrev pub IsNodeWithStones : Colour → Node → Type 0
IsNodeWithStones k n = property_names n.props ≡ name_of_stones k ∷ PL ∷ TR ∷ SQ ∷ C ∷ []

-- a main line is another one with marks at the node where that asks
abbrev pub IsLineWithMarks : List Node → List Node → Type 0
IsLineWithMarks given read = (front : List Node) × (asks : Node) × (marked : Node) × (behind : List Node) × (asking_nodes given ≡ front ++ (asks ∷ []))
    × (given ≡ front ++ (asks ∷ behind)) × (read ≡ front ++ (marked ∷ behind)) × IsNodeWithMarks asks marked

-- a main line is another one with a node that adds stones of this colour behind the node where that asks
abbrev pub IsLineWithStones : Colour → List Node → List Node → Type 0
IsLineWithStones k given read = (added : Node) × (behind : List Node) × (given ≡ asking_nodes given ++ behind)
    × (read ≡ asking_nodes given ++ (added ∷ behind)) × IsNodeWithStones k added

-- a main line is another one with marks alone, or with stones of a colour too, where they are added
abbrev pub IsLineWithMore : Option Colour → List Node → List Node → Type 0
IsLineWithMore None given read = IsLineWithMarks given read
IsLineWithMore (Some k) given read = IsLineWithStones k given read

-- A text, if it isn't too long to be read, is one tree, whose main line is that of these nodes with marks, and with stones where they are added:
-- so no move is lost in a comment.
abbrev pub IsTextWithNodes : Option Colour → List Node → List ℕ → Type 0
IsTextWithNodes stones nodes text = length text ≤ MAX_BYTES → (count : ℕ) × (t : GameTree) × IsOneTree text count t
    × IsLineWithMore stones nodes (main_line t)

-- no parenthesis is among these bytes: so they begin no tree and end none
abbrev pub HasNoParenthesis : List ℕ → Type 0
HasNoParenthesis bytes = (HasOpeningParenthesis bytes → ⊥) × (Contains bytes close_tree → ⊥)

-- The bytes of a tree with these nodes, and in one place more, no more than may be added, none of them a parenthesis: they are marks, and stones
-- of a colour where they are added.
abbrev pub IsGivenWithMore : Option Colour → List ℕ → List Node → List ℕ → Type 0
IsGivenWithMore stones given nodes text = ((front : List ℕ) × (more : List ℕ) × (behind : List ℕ) × (given ≡ front ++ behind) × (length more ≤ MOST_MORE)
    × HasNoParenthesis more × (text ≡ front ++ (more ++ as_given behind))) × IsTextWithNodes stones nodes text

-- the same with stones of the colour other than that of the stone on q
abbrev pub IsGivenWithStones : List ℕ → List Node → GameState → ℕ → List ℕ → Type 0
IsGivenWithStones given nodes g q text = (k : Colour) × (entry_at g.present q ≡ Some k) × IsGivenWithMore (Some (other k)) given nodes text

-- A text is a tree, with these bytes and nodes, with marks for the stone that is meant in its game. Stones that close its wall are added only
-- where that is wanted, and no stone that may be meant marks a group without them.
abbrev pub IsMarkedText : WantedMarks → List ℕ → List Node → List ℕ → GameState → Type 0
IsMarkedText wanted given nodes text g = (q : ℕ) × IsMeant g.size wanted.name q
    × ((IsGivenWithMore None given nodes text × IsEnclosedText wanted.name text g q)
    ⊎ ((wanted.closes ≡ true) × HasNoGroup wanted.name g.size g.present × IsGivenWithStones given nodes g q text × IsClosedText wanted.name text g q))

-- the last of some nodes has squares
abbrev pub has_squares : Option Node → Bool
has_squares None = false
has_squares (Some n) = has SQ n

abbrev pub last_has_squares : List Node → Bool
last_has_squares nodes = has_squares (slice_get nodes (length nodes - 1))

-- the first node with triangles has no squares
abbrev pub has_triangles_alone : List Node → Bool
has_triangles_alone [] = false
has_triangles_alone (n ∷ ns) = if has TR n then not (has SQ n) else has_triangles_alone ns

-- no marks stand where a main line asks: no triangles up to there, and no squares there
abbrev pub AsksUnmarked : List Node → Type 0
AsksUnmarked nodes = (list_any (has TR) (asking_nodes nodes) ≡ false) × (last_has_squares (asking_nodes nodes) ≡ false)

-- A tree without a problem, with these bytes and nodes, gets marks; or it is refused, and stays as it was. It is refused only where marks
-- stand there already, its game can't be played, or no stone that may be meant marks a group.
abbrev pub IsMarkedOrKept : WantedMarks → List ℕ → List Node → Bool → List ℕ → Type 0
IsMarkedOrKept wanted given nodes false text = AsksUnmarked nodes × ((g : GameState) × (game_of nodes ≡ Ok g) × IsMarkedText wanted given nodes text g)
IsMarkedOrKept wanted given nodes true text = (text ≡ as_given given)
    × (AsksUnmarked nodes → (g : GameState) → game_of nodes ≡ Ok g → HasNoGroup wanted.name g.size g.present)

-- what is written where no tree is spelled: a picture's words are for people, and else nothing is
abbrev pub IsWrittenOnNoTree : Mode → List ℕ → Type 0
IsWrittenOnNoTree Picture text = Unit {0}
IsWrittenOnNoTree Diagram text = text ≡ []
IsWrittenOnNoTree (Variations depth) text = text ≡ []
IsWrittenOnNoTree (Marks wanted) text = text ≡ []

-- What is written on a tree with these bytes and nodes, which is a problem or refused: variations begin with the problem. Of marks it tells
-- too whether the tree is refused: a problem keeps its marks, and is refused where its triangles have no squares.
abbrev pub IsWrittenOn : Mode → List ℕ → List Node → Result LineWithUndo GameFault → Bool → List ℕ → Type 0
IsWrittenOn Picture given nodes r refused text = Unit {0}
IsWrittenOn Diagram given nodes r refused text = Unit {0}
IsWrittenOn (Variations depth) given nodes (Ok p) refused text = IsTextWithVariations given text p
IsWrittenOn (Variations depth) given nodes (Err e) refused text = text ≡ as_given given
IsWrittenOn (Marks wanted) given nodes (Ok p) refused text = (text ≡ as_given given) × IsTextOf text p × (refused ≡ has_triangles_alone nodes)
IsWrittenOn (Marks wanted) given nodes (Err e) refused text = IsMarkedOrKept wanted given nodes refused text
