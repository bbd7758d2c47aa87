-- What a line `valid` of an answer to `check` says is so.
use Rattle.std.proofs.Common.{◌≡◌, ◌∙◌, ℕ, Bool, true, false, List, [], ◌∷◌, ◌++◌, Result, Ok, Err, refl, sym, ap, append_assoc, codes, decimal, drop, arith}
use Rattle.std.specs.declared.result.Result.{Result}
use Rattle.tt_sgf.specs.Bytes.{newline}
use Rattle.tt_sgf.specs.Grammar.{GameTree, FirstTreeEndsAt, main_line}
use Rattle.tt_sgf.specs.Values.{trimmed}
use Rattle.tt_game.specs.declared.faults.GameFault.{GameFault}
use Rattle.tt_game.specs.declared.frame.Side.{Side}
use Rattle.tt_game.specs.Faults.{code_of}
use Rattle.tt_game.specs.Game.{HasValue, value_won_by, game_length_bound}
use Rattle.tt_game.specs.GameLaws.{IsWellFormedState}
use Rattle.tt_game.specs.Line.{LineWithUndo}
use Rattle.tt_game.specs.Problems.{problem_of}
use Rattle.tt_game.proofs.SizedProblems.{problem_state}
use Rattle.tt_game.proofs.SomeSide.{values_forced}
use Rattle.tt_proof.proofs.ForcesLemmas.{win_forces}
use Rattle.tt_proof.proofs.HoldsLemmas.{strategy_forces}
use Rattle.tt_parts.specs.Outlines.{unfolded}
use Rattle.tt_proof.specs.Strategy.{depth}
use Rattle.tt_text.specs.declared.checking.CheckOutcome.{CheckOutcome}
use Rattle.tt_text.specs.declared.checking.CheckOutcome.TheVariants.{Valid, Invalid, Refused}
use Rattle.tt_text.specs.Checking.{Finds, FindsOnProblem, FindsPlain, FindsShared, check_line, first_tree, loses, no_certificate, no_tree, shared_loses, shared_wins, too_deep}
use Rattle.tt_text.specs.Checking.{goes_deep, too_long, unfit, unread, wins}
use Rattle.tt_text.specs.Headline.{lines_of}
use Rattle.tt_text.specs.OtherLines.{CertificateWins, CheckLinesAreTrue}
use Rattle.tt_text.proofs.OutputLines.{HasNoNewline, above_newline, decimal_in_line, heads, lines_again, lines_of_beginning, no_newline_in_both, tails}

-- the words of a finding
abbrev words_of : CheckOutcome → List ℕ
words_of Valid = codes "valid"
words_of Invalid = codes "invalid"
words_of (Refused code) = codes "refused " ++ decimal code

valid_in_line : HasNoNewline (codes "valid")
valid_in_line = (above_newline 107, (above_newline 86, (above_newline 97, (above_newline 94, (above_newline 89, tt)))))

words_in_line : (o : CheckOutcome) → HasNoNewline (words_of o)
words_in_line Valid = valid_in_line
words_in_line Invalid = (above_newline 94, (above_newline 99, valid_in_line))
words_in_line (Refused code) = no_newline_in_both (codes "refused ") (decimal code)
    (above_newline 103, (above_newline 90, (above_newline 91, (above_newline 106, (above_newline 104, (above_newline 90, (above_newline 89, (above_newline 21, tt))))))))
    (decimal_in_line code)

words_end : (o : CheckOutcome) → check_line o ≡ words_of o ++ newline ∷ []
words_end Valid = refl
words_end Invalid = refl
words_end (Refused code) = sym (append_assoc (codes "refused ") (decimal code) (newline ∷ []))

-- the line on a finding is one line
one_line : (o : CheckOutcome) → lines_of (check_line o) ≡ words_of o ∷ []
one_line o = ap lines_of (words_end o) ∙ lines_again (words_of o ∷ []) (words_in_line o, tt)

-- where it is `valid`, so is the finding
valid_told : (o : CheckOutcome) → words_of o ≡ codes "valid" → o ≡ Valid
valid_told Valid e = refl
valid_told Invalid e = absurd (let bad : 105 ≡ 118 = heads e in omega (arith, bad))
valid_told (Refused code) e = absurd (let bad : 114 ≡ 118 = heads e in omega (arith, bad))

first_of_one : (x y : List ℕ) (above below : List (List ℕ)) → x ∷ [] ≡ above ++ (y ∷ below) → x ≡ y
first_of_one x y [] below e = heads e
first_of_one x y (a ∷ []) below e = absurd (let bad : [] ≡ y ∷ below = tails e in cc)
first_of_one x y (a ∷ b ∷ above) below e = absurd (let bad : [] ≡ b ∷ (above ++ (y ∷ below)) = tails e in cc)

-- what is found valid at a problem is a certificate that wins there, and says the value
plain_found : (p : LineWithUndo) (bytes : List ℕ) (o : CheckOutcome) → o ≡ Valid → IsWellFormedState p.frame p.state → FindsPlain p bytes o
    → (side : Side) × CertificateWins false p side bytes × HasValue p.frame p.state (value_won_by side)
plain_found p bytes o e is (too_deep deep) = absurd (let bad : Refused 31 ≡ Valid = e in cc)
plain_found p bytes o e is (no_certificate low none) = absurd (let bad : Refused 30 ≡ Valid = e in cc)
plain_found p bytes o e is (wins side u low are w) = (side, (u, are, w), (values_forced p.frame p.state side is).1 (depth u) (win_forces side p.frame u p.state w))
plain_found p bytes o e is (loses side u low are l) = absurd (let bad : Invalid ≡ Valid = e in cc)

shared_found : (p : LineWithUndo) (bytes : List ℕ) (o : CheckOutcome) → o ≡ Valid → IsWellFormedState p.frame p.state → FindsShared p bytes o
    → (side : Side) × CertificateWins true p side bytes × HasValue p.frame p.state (value_won_by side)
shared_found p bytes o e is (unread a) = absurd (let bad : Refused 30 ≡ Valid = e in cc)
shared_found p bytes o e is (goes_deep a) = absurd (let bad : Refused 31 ≡ Valid = e in cc)
shared_found p bytes o e is (unfit side u are h) = absurd (let bad : Refused 32 ≡ Valid = e in cc)
shared_found p bytes o e is (shared_wins side u are h w) =
    (side, (u, are, w), (values_forced p.frame p.state side is).1 (game_length_bound p.frame) (strategy_forces side p.frame (unfolded [] u) p.state is w))
shared_found p bytes o e is (shared_loses side u are h l) = absurd (let bad : Invalid ≡ Valid = e in cc)

found_there : (parts : Bool) (p : LineWithUndo) (bytes : List ℕ) (o : CheckOutcome) → o ≡ Valid → IsWellFormedState p.frame p.state → FindsOnProblem parts (Ok p) bytes o
    → (side : Side) × CertificateWins parts p side bytes × HasValue p.frame p.state (value_won_by side)
found_there false p bytes o e is h = plain_found p bytes o e is h
found_there true p bytes o e is h = shared_found p bytes o e is h

abbrev IsFoundValid : Bool → List ℕ → Type 0
IsFoundValid parts input = (count : ℕ) × (t : GameTree) × (p : LineWithUndo) × (side : Side) × FirstTreeEndsAt input count t × (problem_of (main_line t) ≡ Ok p)
    × CertificateWins parts p side (trimmed (drop count input)) × HasValue p.frame p.state (value_won_by side)

found_at : (parts : Bool) (input : List ℕ) (count : ℕ) (t : GameTree) (o : CheckOutcome) (r : Result LineWithUndo GameFault) → o ≡ Valid → FirstTreeEndsAt input count t
    → problem_of (main_line t) ≡ r → FindsOnProblem parts r (trimmed (drop count input)) o → IsFoundValid parts input
found_at parts input count t o (Ok p) e ends is h =
    let f = found_there parts p (trimmed (drop count input)) o e (problem_state (main_line t) p is) h in
    (count, t, p, f.0, ends, is, f.1, f.2)
found_at parts input count t o (Err fault) e ends is h = absurd (let bad : Refused (code_of fault) ≡ Valid = sym h ∙ e in cc)

found : (parts : Bool) (input : List ℕ) (o : CheckOutcome) → o ≡ Valid → Finds parts input o → IsFoundValid parts input
found parts input o e (too_long long) = absurd (let bad : Refused 2 ≡ Valid = e in cc)
found parts input o e (no_tree small none) = absurd (let bad : Refused 1 ≡ Valid = e in cc)
found parts input o e (first_tree count t q small ends h) = found_at parts input count t o (problem_of (main_line t)) e ends refl h

pub check_lines_are_true : CheckLinesAreTrue
check_lines_are_true parts input text written more status is e above below at =
    let part = lines_of_beginning [] written more in
    let same : words_of is.finding ∷ [] ≡ above ++ (codes "valid" ∷ (below ++ part.0)) =
    sym (one_line is.finding) ∙ ap lines_of (sym is.line ∙ e) ∙ part.1 ∙ ap (λ (x : List (List ℕ)). x ++ part.0) at ∙ append_assoc above (codes "valid" ∷ below) part.0 in
    found parts input is.finding (valid_told is.finding (first_of_one (words_of is.finding) (codes "valid") above (below ++ part.0) same)) is.finds
