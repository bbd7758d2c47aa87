-- What is written on the game trees of an input: the lines of each, of which the first has its number, from 1.
use Rattle.std.specs.Prelude.{◌≡◌, ◌≢◌, ◌⊎◌, ◌+◌, ◌<◌, ◌≤◌, ℕ, Bool, true, false, List, [], ◌∷◌, ◌++◌, length, drop, codes, decimal, if◌then◌else◌}
use Rattle.std.specs.List.{list_any}
use Rattle.tt_sgf.specs.declared.trees.TheConstants.{MAX_BYTES}
use Rattle.tt_sgf.specs.Bytes.{newline, space}
use Rattle.tt_sgf.specs.declared.nodes.Node.{Node}
use Rattle.tt_sgf.specs.Grammar.{GameTree, HasNoTree, HasOpeningParenthesis, FirstTreeEndsAt, main_line}
use Rattle.tt_text.specs.declared.outcome.TreeOutcome.{TreeOutcome}
use Rattle.tt_text.specs.declared.outcome.TreeOutcome.TheVariants.{Scored, Answered, Refused}

-- ---- lines

-- the line on the outcome of tree number k, which a newline ends; an answer's text brings its own newlines
abbrev pub outcome_line : ℕ → TreeOutcome → List ℕ
outcome_line k (Scored r) =
    decimal k ++ (codes " black " ++ (decimal r.black ++ (codes " white " ++ (decimal r.white
    ++ (codes " " ++ ((if r.finished then codes "finished" else codes "unfinished") ++ newline ∷ []))))))
outcome_line k (Answered value text) = decimal k ++ (space ∷ text)
outcome_line k (Refused code) = decimal k ++ (codes " refused " ++ (decimal code ++ newline ∷ []))

-- the lines on outcomes, the first of which has number k
abbrev pub outcome_lines_from : ℕ → List TreeOutcome → List ℕ
outcome_lines_from k [] = []
outcome_lines_from k (o ∷ os) = outcome_line k o ++ outcome_lines_from (k + 1) os

abbrev pub is_refused : TreeOutcome → Bool
is_refused (Refused code) = true
is_refused _ = false

-- the exit status: 1 where a tree was refused
abbrev pub status_of : List TreeOutcome → ℕ
status_of os = if list_any is_refused os then 1 else 0

-- ---- trees, where `allowed` says which outcomes a main line may have

-- the trees at the front of the bytes, read one after the other, have these outcomes and leave the rest
abbrev pub ReadsOutcomes : (List Node → TreeOutcome → Type 0) → List ℕ → List TreeOutcome → List ℕ → Type 0
ReadsOutcomes allowed bytes [] rest = bytes ≡ rest
ReadsOutcomes allowed bytes (o ∷ os) rest = (count : ℕ) × (t : GameTree) × FirstTreeEndsAt bytes count t
    × allowed (main_line t) o × ReadsOutcomes allowed (drop count bytes) os rest

-- These are the outcomes for the whole input: it is too long; or it has trees and no further `(`; or reading stops where
-- no tree is spelled, at a `(` or before the first tree.
pub data AreOutcomes (allowed : List Node → TreeOutcome → Type 0) (input : List ℕ) : List TreeOutcome → Type 0 where
  too_long : MAX_BYTES < length input → AreOutcomes allowed input (Refused 2 ∷ [])
  all_read : (os : List TreeOutcome) (rest : List ℕ) → length input ≤ MAX_BYTES → ReadsOutcomes allowed input os rest
      → os ≢ [] → (HasOpeningParenthesis rest → ⊥) → AreOutcomes allowed input os
  stopped : (os : List TreeOutcome) (rest : List ℕ) → length input ≤ MAX_BYTES → ReadsOutcomes allowed input os rest
      → (os ≡ []) ⊎ HasOpeningParenthesis rest → HasNoTree rest → AreOutcomes allowed input (os ++ Refused 1 ∷ [])

-- the text is the lines on all outcomes for the input
pub record IsTreesText (allowed : List Node → TreeOutcome → Type 0) (input text : List ℕ) (status : ℕ) : Type 0 where
  pub outcomes : List TreeOutcome
  pub are : AreOutcomes allowed input outcomes
  pub lines : text ≡ outcome_lines_from 1 outcomes
  pub status_is : status ≡ status_of outcomes

-- the text is the lines on some trees at the input's front, or on all outcomes
pub data BeginsTreesText (allowed : List Node → TreeOutcome → Type 0) (input : List ℕ) : List ℕ → Type 0 where
  no_line : BeginsTreesText allowed input []
  some_lines : (os : List TreeOutcome) (rest : List ℕ) → length input ≤ MAX_BYTES → ReadsOutcomes allowed input os rest
      → BeginsTreesText allowed input (outcome_lines_from 1 os)
  all_lines : (os : List TreeOutcome) → AreOutcomes allowed input os → BeginsTreesText allowed input (outcome_lines_from 1 os)

-- the text is the lines on the first trees, each of them whole, and more is to be said: what follows has a `(`
pub data EarlierTreesText (allowed : List Node → TreeOutcome → Type 0) (input : List ℕ) : List ℕ → Type 0 where
  nothing : EarlierTreesText allowed input []
  before_more : (os : List TreeOutcome) (rest : List ℕ) → length input ≤ MAX_BYTES → ReadsOutcomes allowed input os rest → HasOpeningParenthesis rest
      → EarlierTreesText allowed input (outcome_lines_from 1 os)
