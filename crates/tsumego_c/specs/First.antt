-- What is written on the first game tree of an input.
use Rattle.std.specs.Prelude.{◌≡◌, ◌<◌, ◌≤◌, ℕ, List, [], ◌∷◌, length, drop}
use Rattle.tt_sgf.specs.declared.trees.TheConstants.{MAX_BYTES}
use Rattle.tt_sgf.specs.declared.nodes.Node.{Node}
use Rattle.tt_sgf.specs.Grammar.{GameTree, HasNoTree, HasOpeningParenthesis, FirstTreeEndsAt, main_line}
use Rattle.tt_text.specs.declared.outcome.TreeOutcome.{TreeOutcome}
use Rattle.tt_text.specs.declared.outcome.TreeOutcome.TheVariants.{Refused}
use Rattle.tt_text.specs.Trees.{IsTreesText, outcome_line, status_of}

-- What becomes of the first tree: the input is too long; or it has no tree; or the tree has an outcome that is allowed. What
-- follows the tree isn't looked at.
pub data IsFirstTreeOutcome (allowed : List Node → TreeOutcome → Type 0) (input : List ℕ) : TreeOutcome → Type 0 where
  too_long : MAX_BYTES < length input → IsFirstTreeOutcome allowed input (Refused 2)
  no_tree : length input ≤ MAX_BYTES → HasNoTree input → IsFirstTreeOutcome allowed input (Refused 1)
  first_tree : (count : ℕ) (t : GameTree) (o : TreeOutcome) → length input ≤ MAX_BYTES → FirstTreeEndsAt input count t → allowed (main_line t) o
      → IsFirstTreeOutcome allowed input o

-- the text is the line on the first tree, and the status is 1 where that is refused
pub record IsFirstTreeText (allowed : List Node → TreeOutcome → Type 0) (input text : List ℕ) (status : ℕ) : Type 0 where
  pub outcome : TreeOutcome
  pub becomes : IsFirstTreeOutcome allowed input outcome
  pub line : text ≡ outcome_line 1 outcome
  pub status_is : status ≡ status_of (outcome ∷ [])

-- nothing that follows the first tree opens a tree
abbrev pub HasNoSecondTree : List ℕ → Type 0
HasNoSecondTree input = (count : ℕ) (t : GameTree) → FirstTreeEndsAt input count t → HasOpeningParenthesis (drop count input) → ⊥

-- the text on the first tree is the text on all trees
abbrev pub FirstTextIsWholeText : (List Node → TreeOutcome → Type 0) → Type 0
FirstTextIsWholeText allowed = (input text : List ℕ) (status : ℕ) → HasNoSecondTree input → IsFirstTreeText allowed input text status → IsTreesText allowed input text status
