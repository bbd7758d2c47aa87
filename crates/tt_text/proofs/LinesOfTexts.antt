-- The texts of an answer, line by line: no newline stands in a line, and no digit in front of those below a verdict.
use Rattle.std.proofs.Common.{◌≡◌, ◌∙◌, ◌+◌, ◌%◌, ◌/◌, ℕ, Bool, true, false, List, [], ◌∷◌, ◌++◌, All, Option, None, Some, Result, Ok, Err, refl, sym, ap, subst, append_assoc, arith, codes}
use Rattle.std.proofs.lemmas.List.Elements.{All-cons, All-nil}
use Rattle.tt_sgf.specs.Bytes.{lower_a, newline, space}
use Rattle.tt_sgf.specs.declared.size.Size.{Size}
use Rattle.tt_game.specs.declared.frame.Side.{Side}
use Rattle.tt_game.specs.declared.frame.Side.TheVariants.{Attacker, Defender}
use Rattle.tt_game.specs.declared.turns.Turn.{Turn}
use Rattle.tt_game.specs.declared.turns.Turn.TheVariants.{Play, Pass}
use Rattle.tt_game.specs.Line.{LineWithUndo}
use Rattle.tt_game.specs.Sides.{verdict_word}
use Rattle.tt_game.specs.Turns.{legal_turns}
use Rattle.tt_game.specs.laws.TurnLaws.{EachIsLegal, legal_turns_are_legal}
use Rattle.tt_proof.specs.CertificateText.{column_byte, entries_text, readable_turn_text, row_byte, side_prefix, tree_text, turn_text}
use Rattle.tt_parts.specs.Outlines.{Outline, Branches, RefersBack, BranchesReferBack, branch, branches_text, ended, named_trees_after, naming_text, no_branch, outline_text, part, picked, replied}
use Rattle.tt_proof.specs.Strategy.{Strategy, Entries, done, pick, reply, none, entry}
use Rattle.tt_search.specs.declared.limits.Limits.{Limits}
use Rattle.tt_search.specs.declared.limits.Reason.{Reason}
use Rattle.tt_search.specs.declared.limits.Reason.TheVariants.{Budget, Depth, Total, Memory}
use Rattle.tt_solve.specs.declared.options.CertKind.{CertKind}
use Rattle.tt_solve.specs.declared.options.CertKind.TheVariants.{Unasked, Plain, Shared}
use Rattle.tt_solve.specs.Solutions.{AreTurnValues, AreTurnValuesAsked, IsCertificateAsked}
use Rattle.tt_solve.specs.Totals.{total_left}
use Rattle.tt_text.specs.Solving.{certificate_line, first_turn_text, reason_word, turn_value_line, turn_value_lines, value_text}
use Rattle.tt_text.specs.OtherLines.{SaysBelow, certificate, shared_certificate, turn_and_value}
use Rattle.tt_text.proofs.OutputLines.{EachHasNoDigitInFront, EachHasNoNewline, HasNoDigitInFront, HasNoNewline, above_newline, decimal_in_line, no_newline_in_both, text_of_lines}

-- ---- words and turns

letter_in_line : (n : ℕ) → lower_a + n ≡ newline → ⊥
letter_in_line n e = omega (arith, e)

pub side_in_line : (side : Side) → HasNoNewline (verdict_word side)
side_in_line Attacker = (above_newline 96, (above_newline 94, (above_newline 97, (above_newline 97, (above_newline 90, (above_newline 89, tt))))))
side_in_line Defender = (above_newline 97, (above_newline 94, (above_newline 107, (above_newline 90, (above_newline 104, tt)))))

column_in_line : (size : Size) (t : Turn) → column_byte size t ≡ newline → ⊥
column_in_line size (Play p) = letter_in_line (p % size.columns)
column_in_line size Pass = above_newline 34

row_in_line : (size : Size) (t : Turn) → row_byte size t ≡ newline → ⊥
row_in_line size (Play p) = letter_in_line (p / size.columns)
row_in_line size Pass = above_newline 34

turn_in_line : (size : Size) (t : Turn) → HasNoNewline (turn_text size t)
turn_in_line size t = (column_in_line size t, (row_in_line size t, tt))

readable_in_line : (size : Size) (t : Turn) → HasNoNewline (readable_turn_text size t)
readable_in_line size (Play p) = turn_in_line size (Play p)
readable_in_line size Pass = (above_newline 101, (above_newline 86, (above_newline 104, (above_newline 104, tt))))

pub first_in_line : (size : Size) (first : Option Turn) → HasNoNewline (first_turn_text size first)
first_in_line size None = tt
first_in_line size (Some t) = (above_newline 21, readable_in_line size t)

-- ---- certificates

mutual
  tree_in_line : (size : Size) (u : Strategy) → HasNoNewline (tree_text size u)
  tree_in_line size done = (above_newline 35, tt)
  tree_in_line size (pick t u) = (above_newline 22, no_newline_in_both (turn_text size t) (tree_text size u) (turn_in_line size t) (tree_in_line size u))
  tree_in_line size (reply es) = (above_newline 52, entries_in_line size es)

  entries_in_line : (size : Size) (es : Entries) → HasNoNewline (entries_text size es)
  entries_in_line size none = (above_newline 48, tt)
  entries_in_line size (entry t u es) =
      no_newline_in_both (turn_text size t) (tree_text size u ++ entries_text size es) (turn_in_line size t)
      (no_newline_in_both (tree_text size u) (entries_text size es) (tree_in_line size u) (entries_in_line size es))

naming_in_line : (named : Bool) → HasNoNewline (naming_text named)
naming_in_line true = (above_newline 50, tt)
naming_in_line false = tt

mutual
  outline_in_line : (size : Size) (us : List Strategy) (o : Outline) → RefersBack us o → HasNoNewline (outline_text size o)
  outline_in_line size us ended c = (above_newline 35, tt)
  outline_in_line size us (picked n t o) c =
      no_newline_in_both (naming_text n) (33 ∷ (turn_text size t ++ outline_text size o)) (naming_in_line n)
      (above_newline 22, no_newline_in_both (turn_text size t) (outline_text size o) (turn_in_line size t) (outline_in_line size us o c))
  outline_in_line size us (replied n bs) c =
      no_newline_in_both (naming_text n) (63 ∷ branches_text size bs) (naming_in_line n) (above_newline 52, branches_in_line size us bs c)
  outline_in_line size us (part k) c = (above_newline 31, decimal_in_line k)

  branches_in_line : (size : Size) (us : List Strategy) (bs : Branches) → BranchesReferBack us bs → HasNoNewline (branches_text size bs)
  branches_in_line size us no_branch c = (above_newline 48, tt)
  branches_in_line size us (branch t o bs) c =
      no_newline_in_both (turn_text size t) (outline_text size o ++ branches_text size bs) (turn_in_line size t)
      (no_newline_in_both (outline_text size o) (branches_text size bs) (outline_in_line size us o c.0) (branches_in_line size (named_trees_after us o) bs c.1))

-- a side's word and a blank, and then a text in line
behind_side : (side : Side) (text : List ℕ) → HasNoNewline text → HasNoNewline (side_prefix side ++ text)
behind_side side text h =
    no_newline_in_both (side_prefix side) text (no_newline_in_both (verdict_word side) (space ∷ []) (side_in_line side) (above_newline 21, tt)) h

-- no digit stands in front of a side's word
no_digit_before : (side : Side) (text : List ℕ) → HasNoDigitInFront (side_prefix side ++ text)
no_digit_before Attacker text = λ d. omega (arith, d.1)
no_digit_before Defender text = λ d. omega (arith, d.1)

-- ---- what follows a verdict

-- lines that stand below a numbered one, and what each of them says
pub record LinesBelow (Says : List ℕ → Type 0) (text : List ℕ) : Type 0 where
  pub lines : List (List ℕ)
  pub text_is : text ≡ text_of_lines lines
  pub in_line : EachHasNoNewline lines
  pub no_digit : EachHasNoDigitInFront lines
  pub says : All Says lines

pub none_below : (Says : List ℕ → Type 0) (text : List ℕ) → text ≡ [] → LinesBelow Says text
none_below Says text e = record { lines = []; text_is = e; in_line = tt; no_digit = tt; says = All-nil Says }

one_below : (Says : List ℕ → Type 0) (line text : List ℕ) → text ≡ line ++ newline ∷ [] → HasNoNewline line → HasNoDigitInFront line → Says line → LinesBelow Says text
one_below Says line text e h n is = record { lines = line ∷ []; text_is = e; in_line = (h, tt); no_digit = (n, tt); says = All-cons Says line [] is (All-nil Says) }

pub certificate_below : (p : LineWithUndo) (limits : Limits) (side : Side) (first : Option Turn) (cert : CertKind) (c : Option (List ℕ))
    → IsCertificateAsked p limits side first cert c → LinesBelow (SaysBelow p limits) (certificate_line c)
certificate_below p limits side first Unasked None h = none_below (SaysBelow p limits) [] refl
certificate_below p limits side first Unasked (Some bytes) h = absurd h
certificate_below p limits side first Plain None h = absurd h
certificate_below p limits side first Plain (Some bytes) h =
    one_below (SaysBelow p limits) bytes (bytes ++ newline ∷ []) refl
    (subst HasNoNewline (sym h.is.text) (behind_side side (tree_text p.frame.size h.strategy) (tree_in_line p.frame.size h.strategy)))
    (subst HasNoDigitInFront (sym h.is.text) (no_digit_before side (tree_text p.frame.size h.strategy)))
    (certificate side first bytes h)
certificate_below p limits side first Shared None h = absurd h
certificate_below p limits side first Shared (Some bytes) h =
    one_below (SaysBelow p limits) bytes (bytes ++ newline ∷ []) refl
    (subst HasNoNewline (sym h.is.text) (behind_side side (outline_text p.frame.size h.outline) (outline_in_line p.frame.size [] h.outline h.is.closed)))
    (subst HasNoDigitInFront (sym h.is.text) (no_digit_before side (outline_text p.frame.size h.outline)))
    (shared_certificate side first bytes h)

-- ---- turns

reason_in_line : (reason : Reason) → HasNoNewline (reason_word reason)
reason_in_line Budget = (above_newline 87, (above_newline 106, (above_newline 89, (above_newline 92, (above_newline 90, (above_newline 105, tt))))))
reason_in_line Depth = (above_newline 89, (above_newline 90, (above_newline 101, (above_newline 105, (above_newline 93, tt)))))
reason_in_line Total = (above_newline 105, (above_newline 100, (above_newline 105, (above_newline 86, (above_newline 97, tt)))))
reason_in_line Memory = (above_newline 98, (above_newline 90, (above_newline 98, (above_newline 100, (above_newline 103, (above_newline 110, tt))))))

-- the words of an unsettled problem
abbrev pub unsettled_words : Reason → List ℕ
unsettled_words reason = codes "unsettled " ++ reason_word reason

unsettled_front : HasNoNewline (codes "unsettled ")
unsettled_front =
    no_newline_in_both (codes "unset") (codes "tled ")
    (above_newline 106, (above_newline 99, (above_newline 104, (above_newline 90, (above_newline 105, tt)))))
    (above_newline 105, (above_newline 97, (above_newline 90, (above_newline 89, (above_newline 21, tt)))))

pub unsettled_in_line : (reason : Reason) → HasNoNewline (unsettled_words reason)
unsettled_in_line reason = no_newline_in_both (codes "unsettled ") (reason_word reason) unsettled_front (reason_in_line reason)

-- what is said behind a turn, without the newline
abbrev value_words : Result Side Reason → List ℕ
value_words (Ok side) = verdict_word side
value_words (Err reason) = unsettled_words reason

value_in_line : (value : Result Side Reason) → HasNoNewline (value_words value)
value_in_line (Ok side) = side_in_line side
value_in_line (Err reason) = unsettled_in_line reason

value_ends : (value : Result Side Reason) → value_text value ≡ value_words value ++ newline ∷ []
value_ends (Ok side) = refl
value_ends (Err reason) = sym (append_assoc (codes "unsettled ") (reason_word reason) (newline ∷ []))

-- the line on a turn, without the newline
abbrev turn_words : Size → Turn → Result Side Reason → List ℕ
turn_words size t value = space ∷ space ∷ (readable_turn_text size t ++ (space ∷ value_words value))

turn_ends : (size : Size) (t : Turn) (value : Result Side Reason) → turn_value_line size t value ≡ turn_words size t value ++ newline ∷ []
turn_ends size t value =
    ap (λ (x : List ℕ). space ∷ space ∷ x)
    (ap (λ (x : List ℕ). readable_turn_text size t ++ (space ∷ x)) (value_ends value)
    ∙ sym (append_assoc (readable_turn_text size t) (space ∷ value_words value) (newline ∷ [])))

words_in_line : (size : Size) (t : Turn) (value : Result Side Reason) → HasNoNewline (turn_words size t value)
words_in_line size t value =
    (above_newline 21, (above_newline 21, no_newline_in_both (readable_turn_text size t) (space ∷ value_words value) (readable_in_line size t) (above_newline 21, value_in_line value)))

pub turns_below : (p : LineWithUndo) (limits : Limits) (total left : Option ℕ) (ts : List Turn) (values : List (Turn × Result Side Reason)) → EachIsLegal p.frame p.state ts
    → AreTurnValues p limits total left ts values → LinesBelow (SaysBelow p limits) (turn_value_lines p.frame.size values)
turns_below p limits total left [] values legal h = none_below (SaysBelow p limits) _ (ap (turn_value_lines p.frame.size) h.1)
turns_below p limits total left (t ∷ ts) values legal h =
    let size = p.frame.size in
    let words = turn_words size t h.1 in
    let rest = turn_value_lines size h.2 in
    let more = turns_below p limits (total_left total h.0) left ts h.2 legal.1 h.5 in record {
      lines = words ∷ more.lines;
      text_is = ap (turn_value_lines size) h.4 ∙ ap (λ (x : List ℕ). x ++ rest) (turn_ends size t h.1) ∙ append_assoc words (newline ∷ []) rest
          ∙ ap (λ (x : List ℕ). words ++ (newline ∷ x)) more.text_is;
      in_line = (words_in_line size t h.1, more.in_line);
      no_digit = ((λ d. omega (arith, d.0)), more.no_digit);
      says = All-cons (SaysBelow p limits) words more.lines (turn_and_value t h.1 words total legal.0 h.3.within (sym (turn_ends size t h.1))) more.says;
    }

pub turns_below_if_asked : (p : LineWithUndo) (limits : Limits) (total : Option ℕ) (asked : Bool) (values : List (Turn × Result Side Reason))
    → AreTurnValuesAsked p limits total asked values → LinesBelow (SaysBelow p limits) (turn_value_lines p.frame.size values)
turns_below_if_asked p limits total false values e = none_below (SaysBelow p limits) _ (ap (turn_value_lines p.frame.size) e)
turns_below_if_asked p limits total true values h = turns_below p limits total h.0 (legal_turns p.frame p.state) values (legal_turns_are_legal p.frame p.state) h.1
