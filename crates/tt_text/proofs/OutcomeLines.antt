-- Each outcome of an output is a numbered line with lines below it, and so what is said of outcomes is said of lines.
use Rattle.std.proofs.Common.{◌≡◌, ◌∙◌, ◌<◌, ◌≤◌, ◌^◌, ◌+◌, ℕ, suc, List, [], ◌∷◌, ◌++◌, refl, sym, ap, subst, append_assoc, append-nil, arith, codes, decimal, length, drop}
use Rattle.std.proofs.lemmas.List.{length-append, length-drop}
use Rattle.tt_sgf.specs.Bytes.{newline, space}
use Rattle.tt_sgf.specs.declared.nodes.Node.{Node}
use Rattle.tt_sgf.specs.Grammar.{GameTree, FirstTreeEndsAt, Spells, game, main_line}
use Rattle.tt_sgf.specs.declared.trees.TheConstants.{MAX_BYTES}
use Rattle.tt_text.specs.declared.outcome.TreeOutcome.{TreeOutcome}
use Rattle.tt_text.specs.declared.outcome.TreeOutcome.TheVariants.{Refused}
use Rattle.tt_text.specs.Headline.{IsNumberedLine, IsTree, lines_of}
use Rattle.tt_text.specs.Trees.{AreOutcomes, BeginsTreesText, ReadsOutcomes, all_lines, all_read, no_line, outcome_line, outcome_lines_from, some_lines, stopped, too_long}
use Rattle.tt_text.proofs.OutputBlocks.{BlockOf, Blocks, block, find_block, no_block}
use Rattle.tt_text.proofs.OutputLines.{EachHasNoDigitInFront, EachHasNoNewline, HasNoNewline, above_newline, decimal_in_line, lines_again, lines_of_beginning}
use Rattle.tt_text.proofs.OutputLines.{no_newline_in_both, none_in_both, text_of_both, text_of_lines}

-- what is so of a numbered line, by its number and its words, and of the lines below it
module _ (Truth : ℕ → List ℕ → List (List ℕ) → Type 0) where
  -- the lines on outcome number k
  pub record OutcomeLines (k : ℕ) (o : TreeOutcome) : Type 0 where
    pub words : List ℕ
    pub tail : List (List ℕ)
    pub text_is : outcome_line k o ≡ text_of_lines ((decimal k ++ (space ∷ words)) ∷ tail)
    pub in_line : HasNoNewline words
    pub tail_in_line : EachHasNoNewline tail
    pub no_digit : EachHasNoDigitInFront tail
    pub truth : Truth k words tail

  pub refused_lines : (k code : ℕ) → Truth k (codes "refused " ++ decimal code) [] → OutcomeLines k (Refused code)
  refused_lines k code is = record {
    words = codes "refused " ++ decimal code;
    tail = [];
    text_is = ap (λ (x : List ℕ). decimal k ++ (space ∷ x)) (sym (append_assoc (codes "refused ") (decimal code) (newline ∷ [])))
        ∙ sym (append_assoc (decimal k) (space ∷ (codes "refused " ++ decimal code)) (newline ∷ []));
    in_line = no_newline_in_both (codes "refused ") (decimal code)
        (above_newline 103, (above_newline 90, (above_newline 91, (above_newline 106, (above_newline 104, (above_newline 90, (above_newline 89, (above_newline 21, tt))))))))
        (decimal_in_line code);
    tail_in_line = tt;
    no_digit = tt;
    truth = is;
  }

  -- ---- all outcomes

  abbrev pub EachHasLines : ℕ → List TreeOutcome → Type 0
  EachHasLines k [] = Unit {0}
  EachHasLines k (o ∷ os) = (k < 2 ^ 64) × OutcomeLines k o × EachHasLines (k + 1) os

  -- lines in blocks
  record InBlocks (k : ℕ) (text : List ℕ) : Type 0 where
    lines : List (List ℕ)
    text_is : text ≡ text_of_lines lines
    in_line : EachHasNoNewline lines
    blocks : Blocks Truth k lines

  in_blocks : (k : ℕ) (os : List TreeOutcome) → EachHasLines k os → InBlocks k (outcome_lines_from k os)
  in_blocks k [] h = record { lines = []; text_is = refl; in_line = tt; blocks = no_block k }
  in_blocks k (o ∷ os) h =
      let this = h.1 in
      let more = in_blocks (k + 1) os h.2 in
      let head = decimal k ++ (space ∷ this.words) in record {
        lines = head ∷ (this.tail ++ more.lines);
        text_is = ap (λ (x : List ℕ). x ++ outcome_lines_from (k + 1) os) this.text_is
            ∙ ap (λ (x : List ℕ). text_of_lines (head ∷ this.tail) ++ x) more.text_is
            ∙ sym (text_of_both (head ∷ this.tail) more.lines);
        in_line = (no_newline_in_both (decimal k) (space ∷ this.words) (decimal_in_line k) (above_newline 21, this.in_line), none_in_both this.tail more.lines this.tail_in_line more.in_line);
        blocks = block k this.words this.tail more.lines h.0 this.no_digit this.truth more.blocks;
      }

  -- a numbered line of what was written of them heads such lines
  pub block_of : (os : List TreeOutcome) (text written more : List ℕ) → EachHasLines 1 os → text ≡ outcome_lines_from 1 os → text ≡ written ++ more
      → (above below : List (List ℕ)) (line : List ℕ) (k : ℕ) (words : List ℕ) → lines_of written ≡ above ++ (line ∷ below) → IsNumberedLine line k words
      → (after : List (List ℕ)) × BlockOf Truth k words (below ++ after)
  block_of os text written more h is e above below line k words at numbered =
      let all = in_blocks 1 os h in
      let part = lines_of_beginning [] written more in
      let same : all.lines ≡ (above ++ (line ∷ below)) ++ part.0 =
      sym (lines_again all.lines all.in_line) ∙ ap lines_of (sym all.text_is ∙ sym is ∙ e) ∙ part.1 ∙ ap (λ (x : List (List ℕ)). x ++ part.0) at in
      (part.0, find_block Truth 1 all.lines above (below ++ part.0) line k words all.blocks (same ∙ append_assoc above (line ∷ below) part.0) numbered)

-- ---- the trees of the input

spelled_some : (text : List ℕ) (t : GameTree) → Spells text t → 1 ≤ length text
spelled_some text (game nodes trees) h = let e = ap length h.7 in omega (arith, e)

count_facts : (bytes : List ℕ) (count : ℕ) (t : GameTree) → FirstTreeEndsAt bytes count t → (1 ≤ count) × (count ≤ length bytes)
count_facts bytes count t h =
    let some = spelled_some h.text t h.spells in
    let all = ap length h.parts ∙ length-append h.skipped (h.text ++ h.rest) in
    let inner = length-append h.text h.rest in
    (omega (arith, some, h.count_is), omega (arith, all, inner, h.count_is))

module _ (Truth : ℕ → List ℕ → List (List ℕ) → Type 0) (allowed : List Node → TreeOutcome → Type 0) (input : List ℕ)
    (each : (k : ℕ) (t : GameTree) (o : TreeOutcome) → IsTree input k t → allowed (main_line t) o → OutcomeLines Truth k o)
    (refused : (k code : ℕ) → Truth k (codes "refused " ++ decimal code) []) where
  same_tree : (j k : ℕ) (t : GameTree) → j ≡ k → IsTree input j t → IsTree input k t
  same_tree j k t e h = subst (λ (n : ℕ). IsTree input n t) e h

  -- the trees that are read from tree number k on, and what stands behind them
  read_lines : (k : ℕ) (bytes : List ℕ) → ((n : ℕ) (t : GameTree) → IsTree bytes (suc n) t → IsTree input (n + k) t) → length input ≤ MAX_BYTES
      → k + length bytes ≤ length input + 1 → (os : List TreeOutcome) (rest : List ℕ) (last : List TreeOutcome) → ReadsOutcomes allowed bytes os rest
      → ((j : ℕ) → j < 2 ^ 64 → EachHasLines Truth j last) → EachHasLines Truth k (os ++ last)
  read_lines k bytes later small room [] rest last h ends = ends k (omega (arith, small, room))
  read_lines k bytes later small room (o ∷ os) rest last h ends =
      let count = h.0 in
      let t = h.1 in
      let c = count_facts bytes count t h.2 in
      let left = length-drop count bytes in
      let here : IsTree input k t = same_tree (0 + k) k t (omega arith) (later 0 t (count, h.2)) in (
        omega (arith, small, room, c.0, c.1),
        each k t o here h.3,
        read_lines (k + 1) (drop count bytes)
            (λ n u is. same_tree (suc n + k) (n + (k + 1)) u (omega arith) (later (suc n) u (count, t, h.2, is))) small (omega (arith, left, room, c.0, c.1)) os rest last h.4 ends,
      )

  itself : (n : ℕ) (t : GameTree) → IsTree input (suc n) t → IsTree input (n + 1) t
  itself n t h = same_tree (suc n) (n + 1) t (omega arith) h

  one_refused : (code j : ℕ) → j < 2 ^ 64 → EachHasLines Truth j (Refused code ∷ [])
  one_refused code j h = (h, refused_lines Truth j code (refused j code), tt)

  from_first : (os : List TreeOutcome) (rest : List ℕ) (last : List TreeOutcome) → length input ≤ MAX_BYTES → ReadsOutcomes allowed input os rest
      → ((j : ℕ) → j < 2 ^ 64 → EachHasLines Truth j last) → EachHasLines Truth 1 (os ++ last)
  from_first os rest last small reads ends = read_lines 1 input itself small (omega arith) os rest last reads ends

  all_of : (os : List TreeOutcome) (rest : List ℕ) → length input ≤ MAX_BYTES → ReadsOutcomes allowed input os rest → EachHasLines Truth 1 os
  all_of os rest small reads = subst (λ (x : List TreeOutcome). EachHasLines Truth 1 x) (append-nil os) (from_first os rest [] small reads (λ j low. tt))

  outcomes_have_lines : (os : List TreeOutcome) → AreOutcomes allowed input os → EachHasLines Truth 1 os
  outcomes_have_lines os (too_long long) = one_refused 2 1 (omega arith)
  outcomes_have_lines os (all_read some rest small reads more none) = all_of some rest small reads
  outcomes_have_lines os (stopped some rest small reads why none) = from_first some rest (Refused 1 ∷ []) small reads (λ j low. one_refused 1 j low)

  -- and so with what begins an output
  pub begins_with_lines : (text : List ℕ) → BeginsTreesText allowed input text → (os : List TreeOutcome) × EachHasLines Truth 1 os × (text ≡ outcome_lines_from 1 os)
  begins_with_lines text no_line = ([], tt, refl)
  begins_with_lines text (some_lines os rest small reads) = (os, all_of os rest small reads, refl)
  begins_with_lines text (all_lines os h) = (os, outcomes_have_lines os h, refl)
