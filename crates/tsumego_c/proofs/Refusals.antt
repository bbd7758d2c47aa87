-- Lemmas on where the first tree is refused.
use Rattle.std.proofs.Common.{◌≡◌, ◌≢◌, ◌≤◌, ◌<◌, ℕ, Bool, true, false, List, Ok, Err, refl, sym, ap, arith, length, subst}
use Rattle.std.specs.declared.result.Result.{Result}
use Rattle.tt_sgf.specs.declared.faults.SgfFault.{SgfFault}
use Rattle.tt_sgf.specs.declared.faults.SgfFault.TheVariants.{Syntax, TooLong, NoMemory}
use Rattle.tt_sgf.specs.declared.nodes.Node.{Node}
use Rattle.tt_sgf.specs.declared.trees.TheConstants.{MAX_BYTES}
use Rattle.tt_sgf.specs.Faults.{code_of}
use Rattle.tt_sgf.specs.Grammar.{GameTree, GrammarIsUnambiguous, HasNoTree, FirstTreeEndsAt, main_line}
use Rattle.tt_game.specs.declared.faults.GameFault.{GameFault}
use Rattle.tt_game.specs.declared.records.Record.{Record}
use Rattle.tt_game.specs.Line.{LineWithUndo}
use Rattle.tt_game.specs.Problems.{problem_of}
use Rattle.tt_game.specs.Records.{record_of}
use Rattle.tt_solve.specs.declared.options.Options.{Options}
use Rattle.tt_text.specs.declared.outcome.TreeOutcome.{TreeOutcome}
use Rattle.tt_text.specs.Scoring.{Scores, record_outcome}
use Rattle.tt_text.specs.Solving.{Solves, SolvesProblemAs}
use Rattle.tsumego_c.specs.declared.first_refusal.Refusal.{Refusal}
use Rattle.tsumego_c.specs.First.{first_tree, no_tree, too_long}
use Rattle.tsumego_c.specs.Refusals.{ExplainsTheLine, IsFirstTreeRefusal, main_line_refusal, refusal_of_input, refusal_of_result, refused_number, too_long_input, tree_of_input, treeless_input}

-- the refusal of the tree that was read
pub refusal_read : (is_record : Bool) (input : List ℕ) (count : ℕ) (t : GameTree) (nodes : List Node) (r : Refusal) → length input ≤ MAX_BYTES → FirstTreeEndsAt input count t
    → nodes ≡ main_line t → r ≡ main_line_refusal is_record nodes → IsFirstTreeRefusal is_record input r
refusal_read is_record input count t nodes r small s same is =
    subst (λ (x : Refusal). IsFirstTreeRefusal is_record input x) (sym is)
    (subst (λ (ns : List Node). IsFirstTreeRefusal is_record input (main_line_refusal is_record ns)) (sym same) (tree_of_input count t small s))

-- the refusal of an input whose first tree can't be read
pub input_refused : (is_record : Bool) (input : List ℕ) (e : SgfFault) → e ≢ NoMemory → (e ≡ Syntax → (length input ≤ MAX_BYTES) × HasNoTree input)
    → (e ≡ TooLong → MAX_BYTES < length input) → IsFirstTreeRefusal is_record input (refusal_of_input (code_of e))
input_refused is_record input Syntax known none long = let h = none refl in treeless_input h.0 h.1
input_refused is_record input TooLong known none long = too_long_input (long refl)
input_refused is_record input NoMemory known none long = absurd (known refl)

module _ (is_record : Bool) (allowed : List Node → TreeOutcome → Type 0) (one : GrammarIsUnambiguous)
    (same : (ns : List Node) (o : TreeOutcome) → allowed ns o → (main_line_refusal is_record ns).number ≡ refused_number o) where
  -- the number is that of the line, where it is so of each main line
  explains : ExplainsTheLine is_record allowed
  explains input o r (too_long long) (too_long_input more) = refl
  explains input o r (too_long long) (treeless_input small none) = absurd (omega arith)
  explains input o r (too_long long) (tree_of_input count t small s) = absurd (omega arith)
  explains input o r (no_tree small none) (too_long_input long) = absurd (omega arith)
  explains input o r (no_tree small none) (treeless_input small' none') = refl
  explains input o r (no_tree small none) (tree_of_input count t small' s) = absurd (none t count s)
  explains input o r (first_tree count t o' small s ok) (too_long_input long) = absurd (omega arith)
  explains input o r (first_tree count t o' small s ok) (treeless_input small' none) = absurd (none t count s)
  explains input o r (first_tree count t o' small s ok) (tree_of_input count' t' small' s') =
      subst (λ (u : GameTree). (main_line_refusal is_record (main_line u)).number ≡ refused_number o') (one input count count' t t' s s').1 (same (main_line t) o' ok)

-- a record's number is that of its outcome
scored_number : (x : Result Record GameFault) → (refusal_of_result x).number ≡ refused_number (record_outcome x)
scored_number (Ok r) = refl
scored_number (Err e) = refl

pub explains_score : GrammarIsUnambiguous → ExplainsTheLine true Scores
explains_score one = explains true Scores one (λ ns o h. subst (λ (x : TreeOutcome). (main_line_refusal true ns).number ≡ refused_number x) (sym h) (scored_number (record_of ns)))

-- a problem's number is that of its outcome
solved_number : (options : Options) (x : Result LineWithUndo GameFault) (o : TreeOutcome) → SolvesProblemAs options x o → (refusal_of_result x).number ≡ refused_number o
solved_number options (Ok p) o h = sym (ap refused_number h.1)
solved_number options (Err e) o h = sym (ap refused_number h)

pub explains_solve : GrammarIsUnambiguous → (options : Options) → ExplainsTheLine false (Solves options)
explains_solve one options = explains false (Solves options) one (λ ns o h. solved_number options (problem_of ns) o h)
