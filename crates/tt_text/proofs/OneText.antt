-- An input has one text and one status that answer `score`.
use Rattle.std.proofs.Common.{◌≡◌, ◌≢◌, ◌⊎◌, ℕ, List, [], ◌∷◌, ◌++◌, inl, inr, refl, sym, ap, ap₂, ◌∙◌, drop, arith, subst}
use Rattle.tt_sgf.specs.Grammar.{GameTree, HasNoTree, FirstTreeEndsAt, main_line, HasOpeningParenthesis, GrammarIsUnambiguous}
use Rattle.tt_sgf.specs.laws.TreeLaws.{tree_has_parenthesis}
use Rattle.tt_game.specs.Records.{record_of}
use Rattle.tt_text.specs.declared.outcome.TreeOutcome.{TreeOutcome}
use Rattle.tt_text.specs.declared.outcome.TreeOutcome.TheVariants.{Refused}
use Rattle.tt_text.specs.Scoring.{Scores, record_outcome}
use Rattle.tt_text.specs.Trees.{AreOutcomes, IsTreesText, ReadsOutcomes, all_read, outcome_lines_from, status_of, stopped, too_long}

-- without a `(` no tree is spelled
none_spelled : (bytes : List ℕ) → (HasOpeningParenthesis bytes → ⊥) → HasNoTree bytes
none_spelled bytes none t count s = none (tree_has_parenthesis bytes count t s)

module _ (one : GrammarIsUnambiguous) where
  -- two readings up to where no tree is spelled agree
  reads_same : (bytes : List ℕ) (os ps : List TreeOutcome) (rest left : List ℕ) → ReadsOutcomes Scores bytes os rest → ReadsOutcomes Scores bytes ps left → HasNoTree rest → HasNoTree left
      → (os ≡ ps) × (rest ≡ left)
  reads_same bytes [] [] rest left r l empty none = (refl, sym r ∙ l)
  reads_same bytes [] (p ∷ ps) rest left r l empty none = absurd (empty l.1 l.0 (subst (λ (x : List ℕ). FirstTreeEndsAt x l.0 l.1) r l.2))
  reads_same bytes (o ∷ os) [] rest left r l empty none = absurd (none r.1 r.0 (subst (λ (x : List ℕ). FirstTreeEndsAt x r.0 r.1) l r.2))
  reads_same bytes (o ∷ os) (p ∷ ps) rest left r l empty none =
      let same = one bytes r.0 l.0 r.1 l.1 r.2 l.2 in
      let more = reads_same (drop r.0 bytes) os ps rest left r.4 (subst (λ n. ReadsOutcomes Scores (drop n bytes) ps left) (sym same.0) l.4) empty none in
      (ap₂ (λ (x : TreeOutcome) (xs : List TreeOutcome). x ∷ xs) (r.3 ∙ ap (λ (t : GameTree). record_outcome (record_of (main_line t))) same.1 ∙ sym l.3) more.0, more.1)

  -- all trees are read, or reading stops, and not both
  ends_once : (os ps : List TreeOutcome) (rest left : List ℕ) → (os ≡ ps) × (rest ≡ left) → os ≢ [] → (HasOpeningParenthesis rest → ⊥) → (ps ≡ []) ⊎ HasOpeningParenthesis left → ⊥
  ends_once os ps rest left same some none (inl e) = some (same.0 ∙ e)
  ends_once os ps rest left same some none (inr e) = none (subst HasOpeningParenthesis (sym same.1) e)

  -- an input has one list of outcomes
  outcomes_same : (input : List ℕ) (os ps : List TreeOutcome) → AreOutcomes Scores input os → AreOutcomes Scores input ps → os ≡ ps
  outcomes_same input os ps (too_long long) (too_long more) = refl
  outcomes_same input os ps (too_long long) (all_read ps' left small l some none) = absurd (omega arith)
  outcomes_same input os ps (too_long long) (stopped ps' left small l why none) = absurd (omega arith)
  outcomes_same input os ps (all_read os' rest small r some empty) (too_long long) = absurd (omega arith)
  outcomes_same input os ps (all_read os' rest small r some empty) (all_read ps' left small' l some' none) =
      (reads_same input os' ps' rest left r l (none_spelled rest empty) (none_spelled left none)).0
  outcomes_same input os ps (all_read os' rest small r some empty) (stopped ps' left small' l why none) =
      absurd (ends_once os' ps' rest left (reads_same input os' ps' rest left r l (none_spelled rest empty) none) some empty why)
  outcomes_same input os ps (stopped os' rest small r why empty) (too_long long) = absurd (omega arith)
  outcomes_same input os ps (stopped os' rest small r why empty) (all_read ps' left small' l some none) =
      absurd (ends_once ps' os' left rest (reads_same input ps' os' left rest l r (none_spelled left none) empty) some none why)
  outcomes_same input os ps (stopped os' rest small r why empty) (stopped ps' left small' l why' none) =
      ap (λ (x : List TreeOutcome). x ++ Refused 1 ∷ []) (reads_same input os' ps' rest left r l empty none).0

  -- an input has one text and one status
  pub answers_same : (input s t : List ℕ) (m n : ℕ) → IsTreesText Scores input s m → IsTreesText Scores input t n → (s ≡ t) × (m ≡ n)
  answers_same input s t m n a b =
      let same = outcomes_same input a.outcomes b.outcomes a.are b.are in
      (a.lines ∙ ap (outcome_lines_from 1) same ∙ sym b.lines, a.status_is ∙ ap status_of same ∙ sym b.status_is)
