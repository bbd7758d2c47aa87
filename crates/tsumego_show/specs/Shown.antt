-- What is shown of an input, tree by tree: which trees are refused, what is written, and the exit status. What pictures, diagrams and
-- words look like is tested, and nothing is said of it here.
use Rattle.std.specs.Prelude.{◌≡◌, ◌⊎◌, ◌↔◌, ◌+◌, ◌++◌, ◌<◌, ◌≤◌, ℕ, Bool, IsTrue, true, false, ◌||◌, List, [], length, drop, Ok, Err, if◌then◌else◌}
use Rattle.std.specs.declared.result.Result.{Result}
use Rattle.tt_sgf.specs.declared.trees.TheConstants.{MAX_BYTES}
use Rattle.tt_sgf.specs.Grammar.{GameTree, HasNoTree, HasOpeningParenthesis, FirstTreeEndsAt, main_line}
use Rattle.tt_game.specs.declared.faults.GameFault.{GameFault}
use Rattle.tt_game.specs.Line.{LineWithUndo}
use Rattle.tt_game.specs.Problems.{problem_of}
use Rattle.tsumego_show.specs.declared.mode.Mode.{Mode}
use Rattle.tsumego_show.specs.declared.mode.Mode.TheVariants.{Picture, Diagram, Marks, Variations}
use Rattle.tsumego_show.specs.declared.mode.WantedMarks.{WantedMarks}
use Rattle.tsumego_show.specs.Written.{IsWrittenOn, IsWrittenOnNoTree}

-- an input is one problem, where this is its first tree and none may follow
abbrev pub IsOnlyTree : ℕ → List ℕ → Type 0
IsOnlyTree k behind = (k ≡ 1) × (HasOpeningParenthesis behind → ⊥)

-- Whether tree number k is refused, whose main line is a problem or refused, and which is followed by these bytes: a main line that is
-- no problem, and a diagram beside others. Of marks `IsWrittenOn` tells it.
abbrev pub IsTreeRefused : Mode → ℕ → Result LineWithUndo GameFault → List ℕ → Bool → Type 0
IsTreeRefused Picture k (Ok p) behind refused = refused ≡ false
IsTreeRefused Picture k (Err e) behind refused = refused ≡ true
IsTreeRefused Diagram k (Ok p) behind refused = IsTrue refused ↔ (IsOnlyTree k behind → ⊥)
IsTreeRefused Diagram k (Err e) behind refused = refused ≡ true
IsTreeRefused (Variations depth) k (Ok p) behind refused = refused ≡ false
IsTreeRefused (Variations depth) k (Err e) behind refused = refused ≡ true
IsTreeRefused (Marks wanted) k r behind refused = Unit {0}

-- What is written on bytes at the end of an input, whose first tree has number k, and whether something in them is refused: tree by tree
-- what is written on each; or no tree is left, and none was wanted; or none is spelled where one is wanted: at a `(`, or where no tree was
-- read yet.
pub data IsRestShown (mode : Mode) : ℕ → List ℕ → Bool → List ℕ → Type 0 where
  tree : (k : ℕ) (bytes : List ℕ) (count : ℕ) (t : GameTree) (bad refused : Bool) (part text : List ℕ) (ends : FirstTreeEndsAt bytes count t)
      → IsTreeRefused mode k (problem_of (main_line t)) (drop count bytes) bad → IsWrittenOn mode ends.text (main_line t) (problem_of (main_line t)) bad part
      → IsRestShown mode (k + 1) (drop count bytes) refused text → IsRestShown mode k bytes (bad || refused) (part ++ text)
  ended : (k : ℕ) (bytes : List ℕ) → 1 < k → (HasOpeningParenthesis bytes → ⊥) → IsRestShown mode k bytes false []
  stopped : (k : ℕ) (bytes text : List ℕ) → (k ≡ 1) ⊎ HasOpeningParenthesis bytes → HasNoTree bytes → IsWrittenOnNoTree mode text
      → IsRestShown mode k bytes true text

-- what is written on an input, and whether something in it is refused: it is too long, or so it is with its trees from number 1 on
pub data IsInputShown (mode : Mode) (input : List ℕ) : Bool → List ℕ → Type 0 where
  too_long : (text : List ℕ) → MAX_BYTES < length input → IsWrittenOnNoTree mode text → IsInputShown mode input true text
  trees : (refused : Bool) (text : List ℕ) → length input ≤ MAX_BYTES → IsRestShown mode 1 input refused text → IsInputShown mode input refused text

-- the text for an input, with the exit status: 1 where something is refused
abbrev pub IsTextWithStatus : Mode → List ℕ → List ℕ → ℕ → Type 0
IsTextWithStatus mode input text status = (refused : Bool) × IsInputShown mode input refused text × (status ≡ (if refused then 1 else 0))

-- the exit status for an input
abbrev pub HasStatus : Mode → List ℕ → ℕ → Type 0
HasStatus mode input status = (text : List ℕ) × IsTextWithStatus mode input text status

-- no stones may be added that close a wall
abbrev pub AddsNoStones : Mode → Type 0
AddsNoStones mode = (wanted : WantedMarks) → mode ≡ Marks wanted → wanted.closes ≡ true → ⊥

-- an input has one status then
abbrev pub InputHasOneStatus : Type 0
InputHasOneStatus = (mode : Mode) (input : List ℕ) (m n : ℕ) → AddsNoStones mode → HasStatus mode input m → HasStatus mode input n → m ≡ n
