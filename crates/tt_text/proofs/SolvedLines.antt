-- What each line of an answer to `solve` says is so.
use Rattle.std.proofs.Common.{◌≡◌, ◌∙◌, ℕ, List, [], ◌∷◌, ◌++◌, All, Option, Result, Ok, Err, refl, sym, ap, subst, append_assoc, arith, codes, decimal}
use Rattle.std.proofs.lemmas.List.{append_cancel_left}
use Rattle.std.proofs.lemmas.List.Elements.{All-append, All-nil, All-weaker}
use Rattle.tt_sgf.specs.Bytes.{newline, space}
use Rattle.tt_sgf.specs.Grammar.{GameTree, main_line}
use Rattle.tt_game.specs.declared.faults.GameFault.{GameFault}
use Rattle.tt_game.specs.declared.frame.Side.{Side}
use Rattle.tt_game.specs.declared.frame.Side.TheVariants.{Attacker, Defender}
use Rattle.tt_game.specs.declared.turns.Turn.{Turn}
use Rattle.tt_game.specs.Faults.{code_of}
use Rattle.tt_game.specs.Game.{HasValue, value_won_by}
use Rattle.tt_game.specs.laws.SideLaws.{verdict_word_is_prefix_free}
use Rattle.tt_game.specs.Line.{LineWithUndo}
use Rattle.tt_game.specs.Problems.{problem_of}
use Rattle.tt_game.specs.Sides.{verdict_word}
use Rattle.tt_search.specs.declared.limits.Limits.{Limits}
use Rattle.tt_search.specs.declared.limits.Reason.{Reason}
use Rattle.tt_search.specs.declared.limits.Reason.TheVariants.{Budget, Depth, Total, Memory}
use Rattle.tt_solve.specs.declared.options.CertKind.{CertKind}
use Rattle.tt_solve.specs.declared.options.Options.{Options}
use Rattle.tt_text.specs.declared.outcome.TreeOutcome.{TreeOutcome}
use Rattle.tt_text.specs.declared.outcome.TreeOutcome.TheVariants.{Answered}
use Rattle.tt_text.specs.Headline.{IsNumberedLine, IsProblem, IsTree, VerdictIsTrue, VerdictLinesAreTrue, lines_of}
use Rattle.tt_text.specs.OtherLines.{LowerLineIsTrue, ReasonIsTrue, SaysBelow, SolveLinesAreTrue}
use Rattle.tt_solve.specs.declared.solution.Solution.{Solution}
use Rattle.tt_solve.specs.declared.solution.Solution.TheVariants.{Settled, Unsettled}
use Rattle.tt_solve.specs.declared.solution.Solved.{Solved}
use Rattle.tt_solve.specs.Solutions.{IsFirstTurnOfWinner, IsSolution, IsSolved, IsUnsettledFor, value_of}
use Rattle.tt_solve.specs.Totals.{total_left}
use Rattle.tt_text.specs.Solving.{Solves, SolvesProblemAs, answer_text, certificate_line, first_turn_text, reason_word, turn_value_lines, verdict_text}
use Rattle.tt_text.specs.Trees.{BeginsTreesText}
use Rattle.tt_text.proofs.LinesOfTexts.{LinesBelow, certificate_below, first_in_line, none_below, side_in_line, turns_below_if_asked, unsettled_in_line, unsettled_words}
use Rattle.tt_text.proofs.OutcomeLines.{OutcomeLines, begins_with_lines, block_of, refused_lines}
use Rattle.tt_text.proofs.OutputBlocks.{BlockOf, own_lines}
use Rattle.tt_text.proofs.OutputLines.{HasNoNewline, heads, no_digit_in_both, no_newline_in_both, none_in_both, text_of_both, text_of_lines}

-- ---- one verdict

-- a verdict's first line, and those below it
record VerdictLines (p : LineWithUndo) (limits : Limits) (total : Option ℕ) (text : List ℕ) : Type 0 where
  words : List ℕ
  below : List ℕ
  text_is : text ≡ words ++ (newline ∷ below)
  in_line : HasNoNewline words
  lines : LinesBelow (SaysBelow p limits) below
  value : (side : Side) (rest : List ℕ) → words ≡ verdict_word side ++ rest
      → HasValue p.frame p.state (value_won_by side) × (first : Option Turn) × IsFirstTurnOfWinner p side first × (rest ≡ first_turn_text p.frame.size first)
  reason : (reason : Reason) → words ≡ unsettled_words reason → IsUnsettledFor p limits total reason

-- `unsettled` and `refused` are neither word
unsettled_is_none : (side : Side) (x y : List ℕ) → 117 ∷ x ≡ verdict_word side ++ y → ⊥
unsettled_is_none Attacker x y e = let bad : 117 ≡ 107 = heads e in omega (arith, bad)
unsettled_is_none Defender x y e = let bad : 117 ≡ 108 = heads e in omega (arith, bad)

refused_is_none : (side : Side) (x y : List ℕ) → 114 ∷ x ≡ verdict_word side ++ y → ⊥
refused_is_none Attacker x y e = let bad : 114 ≡ 107 = heads e in omega (arith, bad)
refused_is_none Defender x y e = let bad : 114 ≡ 108 = heads e in omega (arith, bad)

refused_is_not_unsettled : (x : List ℕ) (reason : Reason) → 114 ∷ x ≡ unsettled_words reason → ⊥
refused_is_not_unsettled x reason e = let bad : 114 ≡ 117 = heads e in omega (arith, bad)

-- a reason's word tells it by its first letter
reason_told : (r q : Reason) → reason_word r ≡ reason_word q → r ≡ q
reason_told Budget Budget e = refl
reason_told Budget Depth e = absurd (let bad : 98 ≡ 100 = heads e in omega (arith, bad))
reason_told Budget Total e = absurd (let bad : 98 ≡ 116 = heads e in omega (arith, bad))
reason_told Budget Memory e = absurd (let bad : 98 ≡ 109 = heads e in omega (arith, bad))
reason_told Depth Budget e = absurd (let bad : 100 ≡ 98 = heads e in omega (arith, bad))
reason_told Depth Depth e = refl
reason_told Depth Total e = absurd (let bad : 100 ≡ 116 = heads e in omega (arith, bad))
reason_told Depth Memory e = absurd (let bad : 100 ≡ 109 = heads e in omega (arith, bad))
reason_told Total Budget e = absurd (let bad : 116 ≡ 98 = heads e in omega (arith, bad))
reason_told Total Depth e = absurd (let bad : 116 ≡ 100 = heads e in omega (arith, bad))
reason_told Total Total e = refl
reason_told Total Memory e = absurd (let bad : 116 ≡ 109 = heads e in omega (arith, bad))
reason_told Memory Budget e = absurd (let bad : 109 ≡ 98 = heads e in omega (arith, bad))
reason_told Memory Depth e = absurd (let bad : 109 ≡ 100 = heads e in omega (arith, bad))
reason_told Memory Total e = absurd (let bad : 109 ≡ 116 = heads e in omega (arith, bad))
reason_told Memory Memory e = refl

verdict_lines : (p : LineWithUndo) (limits : Limits) (total : Option ℕ) (cert : CertKind) (s : Solution) → IsSolution p limits total cert s
    → VerdictLines p limits total (verdict_text p.frame.size s)
verdict_lines p limits total cert (Settled side first c) is =
    let turn = first_turn_text p.frame.size first in
    let lines = certificate_line c in record {
      words = verdict_word side ++ turn;
      below = lines;
      text_is = append_assoc (verdict_word side) (turn ++ newline ∷ []) lines
          ∙ ap (λ (x : List ℕ). verdict_word side ++ x) (append_assoc turn (newline ∷ []) lines)
          ∙ sym (append_assoc (verdict_word side) turn (newline ∷ lines));
      in_line = no_newline_in_both (verdict_word side) turn (side_in_line side) (first_in_line p.frame.size first);
      lines = certificate_below p limits side first cert c is.2;
      value = λ other rest e. let same = verdict_word_is_prefix_free side other turn rest e in (
        subst (λ (x : Side). HasValue p.frame p.state (value_won_by x)) same.0 is.0,
        first,
        subst (λ (x : Side). IsFirstTurnOfWinner p x first) same.0 is.1,
        sym same.1,
      );
      reason = λ reason e. absurd (unsettled_is_none side _ turn (sym e));
    }
verdict_lines p limits total cert (Unsettled reason) is = record {
  words = unsettled_words reason;
  below = [];
  text_is = sym (append_assoc (codes "unsettled ") (reason_word reason) (newline ∷ []));
  in_line = unsettled_in_line reason;
  lines = none_below (SaysBelow p limits) [] refl;
  value = λ side rest e. absurd (unsettled_is_none side _ rest e);
  reason = λ other e. subst (λ (r : Reason). IsUnsettledFor p limits total r) (reason_told reason other (append_cancel_left (codes "unsettled ") (reason_word reason) (reason_word other) e)) is;
}

-- ---- one tree

module _ (options : Options) (input : List ℕ) where
  -- what is so of a numbered line and of those below it
  abbrev SolvedTruth : ℕ → List ℕ → List (List ℕ) → Type 0
  SolvedTruth k words tail = VerdictIsTrue input k words × ReasonIsTrue options.limits options.total input k words × All (LowerLineIsTrue options.limits input k) tail

  -- an answer's text
  answered_lines : (k : ℕ) (p : LineWithUndo) (s : Solved) → IsProblem input k p → IsSolved options p s
      → OutcomeLines SolvedTruth k (Answered (value_of s.solution) (answer_text p.frame.size s))
  answered_lines k p s is h =
      let limits = options.limits in
      let verdict = verdict_lines p limits options.total options.cert s.solution h.1.within in
      let turns = turns_below_if_asked p limits (total_left options.total h.0) options.turns s.turn_values.items h.2 in
      let below = turn_value_lines p.frame.size s.turn_values.items in
      let both : answer_text p.frame.size s ≡ verdict.words ++ (newline ∷ text_of_lines (verdict.lines.lines ++ turns.lines)) =
      ap (λ (x : List ℕ). x ++ below) verdict.text_is ∙ append_assoc verdict.words (newline ∷ verdict.below) below
      ∙ ap (λ (x : List ℕ). verdict.words ++ (newline ∷ (x ++ below))) verdict.lines.text_is
      ∙ ap (λ (x : List ℕ). verdict.words ++ (newline ∷ (text_of_lines verdict.lines.lines ++ x))) turns.text_is
      ∙ sym (ap (λ (x : List ℕ). verdict.words ++ (newline ∷ x)) (text_of_both verdict.lines.lines turns.lines)) in record {
        words = verdict.words;
        tail = verdict.lines.lines ++ turns.lines;
        text_is = ap (λ (x : List ℕ). decimal k ++ (space ∷ x)) both
            ∙ sym (append_assoc (decimal k) (space ∷ verdict.words) (newline ∷ text_of_lines (verdict.lines.lines ++ turns.lines)));
        in_line = verdict.in_line;
        tail_in_line = none_in_both verdict.lines.lines turns.lines verdict.lines.in_line turns.in_line;
        no_digit = no_digit_in_both verdict.lines.lines turns.lines verdict.lines.no_digit turns.no_digit;
        truth = (
          (λ side rest e. let v = verdict.value side rest e in (p, is, v.0, v.1, v.2, v.3)),
          (λ reason e. (p, is, verdict.reason reason e)),
          All-weaker (SaysBelow p limits) (LowerLineIsTrue limits input k) (λ line says. (p, is, says)) (verdict.lines.lines ++ turns.lines)
              (All-append (SaysBelow p limits) verdict.lines.lines turns.lines verdict.lines.says turns.says),
        );
      }

  -- a refusal says neither
  refused_truth : (k code : ℕ) → SolvedTruth k (codes "refused " ++ decimal code) []
  refused_truth k code = (
    (λ side rest e. absurd (refused_is_none side _ rest e)),
    (λ reason e. absurd (refused_is_not_unsettled _ reason e)),
    All-nil (LowerLineIsTrue options.limits input k),
  )

  -- what `solve` makes of tree number k
  solved_lines : (k : ℕ) (t : GameTree) (r : Result LineWithUndo GameFault) (o : TreeOutcome) → IsTree input k t → problem_of (main_line t) ≡ r
      → SolvesProblemAs options r o → OutcomeLines SolvedTruth k o
  solved_lines k t (Ok p) o tree is h = subst (λ (x : TreeOutcome). OutcomeLines SolvedTruth k x) (sym h.1) (answered_lines k p h.0 (t, tree, is) h.2)
  solved_lines k t (Err e) o tree is h = subst (λ (x : TreeOutcome). OutcomeLines SolvedTruth k x) (sym h) (refused_lines SolvedTruth k (code_of e) (refused_truth k (code_of e)))

  each_solved : (k : ℕ) (t : GameTree) (o : TreeOutcome) → IsTree input k t → Solves options (main_line t) o → OutcomeLines SolvedTruth k o
  each_solved k t o is h = solved_lines k t (problem_of (main_line t)) o is refl h

  -- ---- whatever part was written

  -- the block of a numbered line
  block_of_line : (text written more : List ℕ) → BeginsTreesText (Solves options) input text → text ≡ written ++ more
      → (above below : List (List ℕ)) (line : List ℕ) (k : ℕ) (words : List ℕ) → lines_of written ≡ above ++ (line ∷ below) → IsNumberedLine line k words
      → (after : List (List ℕ)) × BlockOf SolvedTruth k words (below ++ after)
  block_of_line text written more begins e above below line k words at numbered =
      let all = begins_with_lines SolvedTruth (Solves options) input each_solved refused_truth text begins in
      block_of SolvedTruth all.0 text written more all.1 all.2 e above below line k words at numbered

pub verdict_lines_are_true : VerdictLinesAreTrue
verdict_lines_are_true options input text written more begins e above below line k words at numbered =
    (block_of_line options input text written more begins e above below line k words at numbered).1.truth.0

pub solve_lines_are_true : SolveLinesAreTrue
solve_lines_are_true options input text written more begins e above below rest line k words at numbered none =
    let found = block_of_line options input text written more begins e above (below ++ rest) line k words at numbered in
    let own = found.1 in
    let truth = own.truth in (
      truth.1,
      own_lines (SolvedTruth options input) (LowerLineIsTrue options.limits input k) own.next below own.tail own.rest (rest ++ found.0)
          (sym (append_assoc below rest found.0) ∙ own.below_is) none truth.2 own.more,
    )
