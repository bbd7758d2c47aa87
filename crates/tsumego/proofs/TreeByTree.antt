-- Lemmas on an answer that is written tree by tree.
use Rattle.std.proofs.Common.{◌≡◌, ◌≢◌, ◌≤◌, ◌<◌, ◌+◌, ◌-◌, ℕ, List, [], ◌∷◌, ◌++◌, Bool, true, false, ◌||◌, ◌⊎◌, inl, inr, Option, Ok, Err, IfOk, refl, sym, ap, ap₂, ◌∙◌, length}
use Rattle.std.proofs.Common.{take, drop, arith, append-nil, append_assoc, subst, length-append, suc, if◌then◌else◌}
use Rattle.std.specs.declared.result.Result.{Result}
use Rattle.std.proofs.Math.Seq.{take-append-add}
use Rattle.std.proofs.KnownBytes.{Appends-kept, Appends-trans}
use Rattle.std.proofs.lemmas.List.{take_all, length-drop}
use Rattle.std.proofs.lemmas.List.Folds.{list_any-append}
use Rattle.std.specs.List.{list_any}
use Rattle.std.specs.Io.KnownBytes.{Appends, Keeps}
use Rattle.tt_sgf.specs.declared.trees.TheConstants.{MAX_BYTES}
use Rattle.tt_sgf.specs.declared.faults.SgfFault.{SgfFault}
use Rattle.tt_sgf.specs.declared.faults.SgfFault.TheVariants.{Syntax, TooLong, NoMemory}
use Rattle.tt_sgf.specs.declared.nodes.Node.{Node}
use Rattle.tt_sgf.specs.Faults.{code_of}
use Rattle.tt_sgf.specs.Grammar.{GameTree, HasNoTree, FirstTreeEndsAt, main_line, HasOpeningParenthesis}
use Rattle.devices.specs.declared.fault.RunFault.{RunFault}
use Rattle.devices.specs.declared.fault.RunFault.TheVariants.{Input, Output, Memory}
use Rattle.tt_text.specs.declared.outcome.TreeOutcome.{TreeOutcome}
use Rattle.tt_text.specs.declared.outcome.TreeOutcome.TheVariants.{Scored, Answered, Refused}
use Rattle.tsumego.specs.inside.Lines.{WritesOutcome}
use Rattle.tt_text.specs.Trees.{AreOutcomes, BeginsTreesText, EarlierTreesText, IsTreesText, ReadsOutcomes, all_lines, all_read, before_more, is_refused, outcome_line, outcome_lines_from}
use Rattle.tt_text.specs.Trees.{nothing, some_lines, stopped, too_long}
use Rattle.devices.specs.Writing.{RunWrites, WritesText}

-- one more tree
pub ReadsOutcomes-more : (allowed : List Node → TreeOutcome → Type 0) (input : List ℕ) (os : List TreeOutcome) (o : TreeOutcome) (rest : List ℕ) (count : ℕ) (t : GameTree)
    → ReadsOutcomes allowed input os rest
    → FirstTreeEndsAt rest count t → allowed (main_line t) o → ReadsOutcomes allowed input (os ++ o ∷ []) (drop count rest)
ReadsOutcomes-more allowed input [] o rest count t r s ok = (count, t, subst (λ (x : List ℕ). FirstTreeEndsAt x count t) (sym r) s, ok, ap (drop count) r)
ReadsOutcomes-more allowed input (x ∷ os) o rest count t r s ok = (r.0, r.1, r.2, r.3, ReadsOutcomes-more allowed (drop r.0 input) os o rest count t r.4 s ok)

-- the lines on outcomes with one more end with the line on that one
outcome_lines_from-more : (k : ℕ) (os : List TreeOutcome) (o : TreeOutcome) → outcome_lines_from k (os ++ o ∷ []) ≡ outcome_lines_from k os ++ outcome_line (k + length os) o
outcome_lines_from-more k [] o = append-nil (outcome_line k o) ∙ ap (λ n. outcome_line n o) (omega arith)
outcome_lines_from-more k (x ∷ os) o =
    let next : k + 1 + length os ≡ k + length (x ∷ os) = omega arith in
    ap (λ l. outcome_line k x ++ l) (outcome_lines_from-more (k + 1) os o)
    ∙ sym (append_assoc (outcome_line k x) (outcome_lines_from (k + 1) os) (outcome_line (k + 1 + length os) o))
    ∙ ap (λ n. outcome_line k x ++ outcome_lines_from (k + 1) os ++ outcome_line n o) next

-- no outcome, where the next number is 1
no_outcomes : (os : List TreeOutcome) → 1 ≡ length os + 1 → os ≡ []
no_outcomes [] e = refl
no_outcomes (x ∷ os) e = let bad : 1 ≡ suc (length os) + 1 = e in absurd (omega arith)

or_true : (x : Bool) → (x || true) ≡ true
or_true true = refl
or_true false = refl

-- of one outcome alone, some outcome is refused where it is
any-one : (o : TreeOutcome) → list_any is_refused (o ∷ []) ≡ is_refused o
any-one (Scored x) = refl
any-one (Answered value x) = refl
any-one (Refused x) = refl

-- what is read and written so far; an input with an outcome is not too long
pub record Progress (allowed : List Node → TreeOutcome → Type 0) (input rest : List ℕ) (number : ℕ) (refused : Bool) (a b : Option (List ℕ)) : Type 0 where
  pub os : List TreeOutcome
  pub count : number ≡ length os + 1
  pub reads : ReadsOutcomes allowed input os rest
  pub small : (os ≡ []) ⊎ (length input ≤ MAX_BYTES)
  pub bad : refused ≡ list_any is_refused os
  pub written : Appends a b (outcome_lines_from 1 os)

module _ {allowed : List Node → TreeOutcome → Type 0} {input rest : List ℕ} {number : ℕ} {refused : Bool} {a b : Option (List ℕ)} (p : Progress allowed input rest number refused a b) where
  -- how a run that writes on the trees ends
  abbrev EndsAs : Result ℕ RunFault → Option (List ℕ) → Option (List ℕ) → Type 0
  EndsAs = RunWrites (IsTreesText allowed input) (BeginsTreesText allowed input) (EarlierTreesText allowed input)

  -- the lines with one more
  lines_more : (o : TreeOutcome) → outcome_lines_from 1 (p.os ++ o ∷ []) ≡ outcome_lines_from 1 p.os ++ outcome_line number o
  lines_more o = outcome_lines_from-more 1 p.os o ∙ ap (λ n. outcome_lines_from 1 p.os ++ outcome_line n o) (let e : 1 + length p.os ≡ number = omega (arith, p.count) in e)

  -- where no tree is read yet, the rest is the whole
  nothing_read : (os : List TreeOutcome) → os ≡ [] → ReadsOutcomes allowed input os rest → input ≡ rest
  nothing_read os e r = subst (λ (x : List TreeOutcome). ReadsOutcomes allowed input x rest) e r

  -- where the rest is not too long, nor is the input
  small_whole : length rest ≤ MAX_BYTES → length input ≤ MAX_BYTES
  small_whole le = elim p.small [
    | inl e ↦ subst (λ (x : List ℕ). length x ≤ MAX_BYTES) (sym (nothing_read p.os e p.reads)) le
    | inr whole ↦ whole
  ]

  -- one more tree was read, and its line written
  pub progress_step : (d : Option (List ℕ)) (used : ℕ) (t : GameTree) (nodes : List Node) (bad : Bool) → FirstTreeEndsAt rest used t → nodes ≡ main_line t → length rest ≤ MAX_BYTES
      → WritesOutcome allowed number nodes (Ok bad) b d
      → Progress allowed input (take (length rest - used) (drop used rest)) (number + 1) (refused || bad) a d
  progress_step d used t nodes bad s same small w = record {
    os = p.os ++ w.0 ∷ [];
    count = omega (arith, p.count, length-append p.os (w.0 ∷ []));
    reads = subst (ReadsOutcomes allowed input (p.os ++ w.0 ∷ [])) (sym (take_all (length rest - used) (drop used rest) (omega (arith, length-drop used rest))))
        (ReadsOutcomes-more allowed input p.os w.0 rest used t p.reads s (subst (λ (x : List Node). allowed x w.0) same w.1));
    small = inr (small_whole small);
    bad = ap₂ (λ x y. x || y) p.bad (w.2 ∙ sym (any-one w.0)) ∙ sym (list_any-append is_refused p.os (w.0 ∷ []));
    written = subst (Appends a d) (sym (lines_more w.0)) (Appends-trans a b d _ _ p.written w.3);
  }

  -- a part of one more line is a part of the lines
  cut : (d : Option (List ℕ)) (o : TreeOutcome) (n : ℕ) → Appends b d (take n (outcome_line number o))
      → Appends a d (take (length (outcome_lines_from 1 p.os) + n) (outcome_lines_from 1 (p.os ++ o ∷ [])))
  cut d o n w = subst (Appends a d)
      (sym (ap (take (length (outcome_lines_from 1 p.os) + n)) (lines_more o) ∙ take-append-add (outcome_lines_from 1 p.os) (outcome_line number o) n))
      (Appends-trans a b d _ _ p.written w)

  -- the lines so far are the earlier part, where more is to be written
  earlier : (number ≡ 1) ⊎ HasOpeningParenthesis rest → EarlierTreesText allowed input (outcome_lines_from 1 p.os)
  earlier (inl e) = subst (λ (x : List TreeOutcome). EarlierTreesText allowed input (outcome_lines_from 1 x)) (sym (no_outcomes p.os (sym e ∙ p.count))) nothing
  earlier (inr more) = elim p.small [
    | inl e ↦ subst (λ (x : List TreeOutcome). EarlierTreesText allowed input (outcome_lines_from 1 x)) (sym e) nothing
    | inr small ↦ before_more p.os rest small p.reads more
  ]

  -- memory was refused, and nothing more is written
  pub progress_kept : (d : Option (List ℕ)) → (number ≡ 1) ⊎ HasOpeningParenthesis rest → Keeps b d → EndsAs (Err Memory) a d
  progress_kept d why k = (outcome_lines_from 1 p.os, earlier why, Appends-kept a b d _ p.written k)

  -- a fault came where the line of one more tree was to be written
  pub progress_fault : (d : Option (List ℕ)) → (number ≡ 1) ⊎ HasOpeningParenthesis rest → (used : ℕ) (t : GameTree) (nodes : List Node) (e : RunFault) → FirstTreeEndsAt rest used t
      → nodes ≡ main_line t → length rest ≤ MAX_BYTES
      → WritesOutcome allowed number nodes (Err e) b d → EndsAs (Err e) a d
  progress_fault d why used t nodes Input s same small w = absurd w
  progress_fault d why used t nodes Memory s same small w = progress_kept d why w
  progress_fault d why used t nodes Output s same small w = (
    outcome_lines_from 1 (p.os ++ w.0 ∷ []),
    length (outcome_lines_from 1 p.os) + w.1,
    some_lines (p.os ++ w.0 ∷ []) (drop used rest) (small_whole small)
        (ReadsOutcomes-more allowed input p.os w.0 rest used t p.reads s (subst (λ (x : List Node). allowed x w.0) same w.2)),
    cut d w.0 w.1 w.3,
  )

  -- reading stops with the line of a refusal
  progress_last : (d : Option (List ℕ)) → (number ≡ 1) ⊎ HasOpeningParenthesis rest → (code : ℕ) (r : Result ℕ RunFault) → AreOutcomes allowed input (p.os ++ Refused code ∷ [])
      → IfOk r (λ status. status ≡ 1)
      → WritesText (outcome_line number (Refused code)) r b d → EndsAs r a d
  progress_last d why code (Ok status) h one w = (
    outcome_lines_from 1 (p.os ++ Refused code ∷ []),
    record {
      outcomes = p.os ++ Refused code ∷ [];
      are = h;
      lines = refl;
      status_is = one ∙ sym (ap (λ x. if x then 1 else 0) (list_any-append is_refused p.os (Refused code ∷ []) ∙ or_true (list_any is_refused p.os)));
    },
    subst (Appends a d) (sym (lines_more (Refused code))) (Appends-trans a b d _ _ p.written w),
  )
  progress_last d why code (Err Input) h one w = absurd w
  progress_last d why code (Err Memory) h one w = progress_kept d why w
  progress_last d why code (Err Output) h one w =
      (outcome_lines_from 1 (p.os ++ Refused code ∷ []), length (outcome_lines_from 1 p.os) + w.0, all_lines (p.os ++ Refused code ∷ []) h, cut d (Refused code) w.0 w.1)

  -- no tree is spelled, at a bracket or before the first tree
  progress_stopped : (d : Option (List ℕ)) (r : Result ℕ RunFault) → (number ≡ 1) ⊎ HasOpeningParenthesis rest → length rest ≤ MAX_BYTES → HasNoTree rest
      → IfOk r (λ status. status ≡ 1) → WritesText (outcome_line number (Refused 1)) r b d → EndsAs r a d
  progress_stopped d r why small none one w = progress_last d why 1 r (stopped p.os rest (small_whole small) p.reads (goes_on why) none) one w
    where
      -- there is no outcome yet, or a `(` stands in the rest
      goes_on : (number ≡ 1) ⊎ HasOpeningParenthesis rest → (p.os ≡ []) ⊎ HasOpeningParenthesis rest
      goes_on (inl e) = inl (no_outcomes p.os (sym e ∙ p.count))
      goes_on (inr e) = inr e

  -- the rest is too long, which can be at the start alone
  progress_long : (d : Option (List ℕ)) → (number ≡ 1) ⊎ HasOpeningParenthesis rest → (r : Result ℕ RunFault) → MAX_BYTES < length rest → number + length rest ≤ length input + 1
      → IfOk r (λ status. status ≡ 1) → WritesText (outcome_line number (Refused 2)) r b d → EndsAs r a d
  progress_long d why r long bound one w = progress_last d why 2 r (elim p.small [
    | inl e ↦ subst (λ (x : List TreeOutcome). AreOutcomes allowed input (x ++ Refused 2 ∷ [])) (sym e)
        (too_long (subst (λ (x : List ℕ). MAX_BYTES < length x) (sym (nothing_read p.os e p.reads)) long))
    | inr small ↦ absurd (omega (arith, p.count))
  ]) one w

  -- the next tree can't be read
  pub progress_refused : (d : Option (List ℕ)) → (number ≡ 1) ⊎ HasOpeningParenthesis rest → (e : SgfFault) → e ≢ NoMemory → (e ≡ Syntax → (length rest ≤ MAX_BYTES) × HasNoTree rest)
      → (e ≡ TooLong → MAX_BYTES < length rest) → number + length rest ≤ length input + 1 → (r : Result ℕ RunFault) → IfOk r (λ status. status ≡ 1)
      → WritesText (outcome_line number (Refused (code_of e))) r b d → EndsAs r a d
  progress_refused d why Syntax known none long bound r one w = let h = none refl in progress_stopped d r why h.0 h.1 one w
  progress_refused d why TooLong known none long bound r one w = progress_long d why r (long refl) bound one w
  progress_refused d why NoMemory known none long bound r one w = absurd (known refl)

  -- all trees are read
  pub progress_ended : number ≢ 1 → (HasOpeningParenthesis rest → ⊥) → (status : ℕ) → status ≡ (if refused then 1 else 0) → EndsAs (Ok status) a b
  progress_ended more none status e = (
    outcome_lines_from 1 p.os,
    record { outcomes = p.os; are = all_read p.os rest small p.reads some none; lines = refl; status_is = e ∙ ap (λ x. if x then 1 else 0) p.bad },
    p.written,
  )
    where
      -- there is an outcome
      some : p.os ≢ []
      some e = more (p.count ∙ ap (λ (l : List TreeOutcome). length l + 1) e)

      -- so the input is not too long
      small : length input ≤ MAX_BYTES
      small = elim p.small [ inl e ↦ absurd (some e) | inr le ↦ le ]
