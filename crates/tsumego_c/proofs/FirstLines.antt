-- Lemmas on the line on the first tree.
use Rattle.std.proofs.Common.{◌≡◌, ◌≢◌, ◌≤◌, ◌<◌, ℕ, List, [], ◌∷◌, inl, refl, sym, ◌∙◌, append-nil, drop, length, subst}
use Rattle.tt_sgf.specs.declared.faults.SgfFault.{SgfFault}
use Rattle.tt_sgf.specs.declared.faults.SgfFault.TheVariants.{Syntax, TooLong, NoMemory}
use Rattle.tt_sgf.specs.declared.nodes.Node.{Node}
use Rattle.tt_sgf.specs.declared.trees.TheConstants.{MAX_BYTES}
use Rattle.tt_sgf.specs.Faults.{code_of}
use Rattle.tt_sgf.specs.Grammar.{GameTree, HasNoTree, FirstTreeEndsAt, main_line}
use Rattle.tt_text.specs.declared.outcome.TreeOutcome.{TreeOutcome}
use Rattle.tt_text.specs.declared.outcome.TreeOutcome.TheVariants.{Refused}
use Rattle.tt_text.specs.Trees.{AreOutcomes, all_read, outcome_line, stopped}
use Rattle.tt_text.specs.Trees as trees
use Rattle.tsumego_c.specs.First.{HasNoSecondTree, IsFirstTreeOutcome, FirstTextIsWholeText, first_tree, no_tree, too_long}

module _ (allowed : List Node → TreeOutcome → Type 0) where
  -- the outcome of the tree that was read
  pub outcome_read : (input : List ℕ) (count : ℕ) (t : GameTree) (nodes : List Node) (o : TreeOutcome) → length input ≤ MAX_BYTES → FirstTreeEndsAt input count t
      → nodes ≡ main_line t → allowed nodes o → IsFirstTreeOutcome allowed input o
  outcome_read input count t nodes o small s same ok = first_tree count t o small s (subst (λ (x : List Node). allowed x o) same ok)

  -- the first tree can't be read
  pub outcome_refused : (input : List ℕ) (e : SgfFault) → e ≢ NoMemory → (e ≡ Syntax → (length input ≤ MAX_BYTES) × HasNoTree input) → (e ≡ TooLong → MAX_BYTES < length input)
      → IsFirstTreeOutcome allowed input (Refused (code_of e))
  outcome_refused input Syntax known none long = let h = none refl in no_tree h.0 h.1
  outcome_refused input TooLong known none long = too_long (long refl)
  outcome_refused input NoMemory known none long = absurd (known refl)

  -- the outcome of the first tree is the only one
  only_outcome : (input : List ℕ) (o : TreeOutcome) → HasNoSecondTree input → IsFirstTreeOutcome allowed input o → AreOutcomes allowed input (o ∷ [])
  only_outcome input o alone (too_long long) = trees.too_long long
  only_outcome input o alone (no_tree small none) = stopped [] input small refl (inl refl) none
  only_outcome input o alone (first_tree count t o' small s ok) =
      all_read (o' ∷ []) (drop count input) small (count, t, s, ok, refl) (λ e. let bad : o' ∷ [] ≡ [] = e in cc) (alone count t s)

  pub whole_text : FirstTextIsWholeText allowed
  whole_text input text status alone h = record {
    outcomes = h.outcome ∷ [];
    are = only_outcome input h.outcome alone h.becomes;
    lines = h.line ∙ sym (append-nil (outcome_line 1 h.outcome));
    status_is = h.status_is;
  }
