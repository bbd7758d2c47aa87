-- What each line of an answer to `score` says is so.
use Rattle.std.proofs.Common.{◌≡◌, ◌∙◌, ℕ, Bool, true, false, List, [], ◌∷◌, ◌++◌, Result, Ok, Err, refl, sym, ap, subst, append_assoc, arith, codes, decimal, if◌then◌else◌}
use Rattle.tt_sgf.specs.Bytes.{newline, space}
use Rattle.tt_sgf.specs.Grammar.{GameTree, main_line}
use Rattle.tt_game.specs.declared.faults.GameFault.{GameFault}
use Rattle.tt_game.specs.declared.records.Record.{Record}
use Rattle.tt_game.specs.Faults.{code_of}
use Rattle.tt_game.specs.Records.{record_of}
use Rattle.tt_text.specs.declared.outcome.TreeOutcome.{TreeOutcome}
use Rattle.tt_text.specs.declared.outcome.TreeOutcome.TheVariants.{Scored}
use Rattle.tt_text.specs.Headline.{IsTree}
use Rattle.tt_text.specs.OtherLines.{ScoreIsTrue, ScoreLinesAreTrue}
use Rattle.tt_text.specs.Scoring.{Scores, record_outcome}
use Rattle.tt_text.specs.Trees.{outcome_line}
use Rattle.tt_text.proofs.OutcomeLines.{OutcomeLines, begins_with_lines, block_of, refused_lines}
use Rattle.tt_text.proofs.OutputLines.{HasNoNewline, above_newline, decimal_in_line, heads, no_newline_in_both}

-- whether a game is finished, in words
abbrev end_words : Bool → List ℕ
end_words b = if b then codes "finished" else codes "unfinished"

finished_in_line : HasNoNewline (codes "finished")
finished_in_line = (above_newline 91, (above_newline 94, (above_newline 99, (above_newline 94, (above_newline 104, (above_newline 93, (above_newline 90, (above_newline 89, tt))))))))

end_in_line : (b : Bool) → HasNoNewline (end_words b)
end_in_line true = finished_in_line
end_in_line false = (above_newline 106, (above_newline 99, finished_in_line))

-- a score in words
abbrev white_words : Record → List ℕ
white_words r = decimal r.white ++ (codes " " ++ end_words r.finished)

abbrev score_words : Record → List ℕ
score_words r = codes "black " ++ (decimal r.black ++ (codes " white " ++ white_words r))

score_in_line : (r : Record) → HasNoNewline (score_words r)
score_in_line r =
    no_newline_in_both (codes "black ") (decimal r.black ++ (codes " white " ++ white_words r))
    (above_newline 87, (above_newline 97, (above_newline 86, (above_newline 88, (above_newline 96, (above_newline 21, tt))))))
    (no_newline_in_both (decimal r.black) (codes " white " ++ white_words r) (decimal_in_line r.black)
    (no_newline_in_both (codes " white ") (white_words r)
    (above_newline 21, (above_newline 108, (above_newline 93, (above_newline 94, (above_newline 105, (above_newline 90, (above_newline 21, tt)))))))
    (no_newline_in_both (decimal r.white) (codes " " ++ end_words r.finished) (decimal_in_line r.white) (above_newline 21, end_in_line r.finished))))

-- they are what stands behind the number
score_ends : (k : ℕ) (r : Record) → decimal k ++ (space ∷ (score_words r ++ newline ∷ [])) ≡ outcome_line k (Scored r)
score_ends k r =
    ap (λ (x : List ℕ). decimal k ++ (codes " black " ++ x))
    (append_assoc (decimal r.black) (codes " white " ++ white_words r) (newline ∷ [])
    ∙ ap (λ (x : List ℕ). decimal r.black ++ (codes " white " ++ x)) (append_assoc (decimal r.white) (codes " " ++ end_words r.finished) (newline ∷ [])))

refused_is_no_score : (x y : List ℕ) → 114 ∷ x ≡ 98 ∷ y → ⊥
refused_is_no_score x y e = let bad : 114 ≡ 98 = heads e in omega (arith, bad)

module _ (input : List ℕ) where
  abbrev ScoredTruth : ℕ → List ℕ → List (List ℕ) → Type 0
  ScoredTruth k words tail = ScoreIsTrue input k words

  refused_truth : (k code : ℕ) → ScoredTruth k (codes "refused " ++ decimal code) []
  refused_truth k code = λ rest e. absurd (refused_is_no_score _ _ e)

  -- a tree's line
  scored_line : (k : ℕ) (t : GameTree) (r : Result Record GameFault) (o : TreeOutcome) → IsTree input k t → record_of (main_line t) ≡ r → o ≡ record_outcome r
      → OutcomeLines ScoredTruth k o
  scored_line k t (Ok r) o tree is h = subst (λ (x : TreeOutcome). OutcomeLines ScoredTruth k x) (sym h) record {
    words = score_words r;
    tail = [];
    text_is = sym (score_ends k r) ∙ sym (append_assoc (decimal k) (space ∷ score_words r) (newline ∷ []));
    in_line = score_in_line r;
    tail_in_line = tt;
    no_digit = tt;
    truth = λ rest e. (t, r, tree, is, score_ends k r);
  }
  scored_line k t (Err e) o tree is h =
      subst (λ (x : TreeOutcome). OutcomeLines ScoredTruth k x) (sym h) (refused_lines ScoredTruth k (code_of e) (refused_truth k (code_of e)))

  each_scored : (k : ℕ) (t : GameTree) (o : TreeOutcome) → IsTree input k t → Scores (main_line t) o → OutcomeLines ScoredTruth k o
  each_scored k t o is h = scored_line k t (record_of (main_line t)) o is refl h

pub score_lines_are_true : ScoreLinesAreTrue
score_lines_are_true input text written more begins e above below line k words at numbered =
    let all = begins_with_lines (ScoredTruth input) Scores input (each_scored input) (refused_truth input) text begins in
    (block_of (ScoredTruth input) all.0 text written more all.1 all.2 e above below line k words at numbered).1.truth
