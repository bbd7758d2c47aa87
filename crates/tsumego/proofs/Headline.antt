-- What a run wrote is a beginning of an answer, so that its lines are true.
use Rattle.std.proofs.Common.{◌≡◌, ◌∙◌, ℕ, List, [], ◌++◌, Some, Result, Ok, Err, sym, ap, subst, append-nil, take, drop}
use Rattle.std.proofs.lemmas.List.{append_cancel_left, take-append-drop}
use Rattle.devices.specs.declared.fault.RunFault.{RunFault}
use Rattle.devices.specs.declared.fault.RunFault.TheVariants.{Input, Output, Memory}
use Rattle.tt_text.specs.Headline.{VerdictLinesAreTrue}
use Rattle.tt_text.specs.Trees.{BeginsTreesText, EarlierTreesText, IsTreesText, all_lines, before_more, no_line, nothing, some_lines}
use Rattle.tsumego.specs.declared.request.Command.TheVariants.{Score, Check, CheckParts, Solve}
use Rattle.tsumego.specs.declared.task.InputTask.TheVariants as inputs
use Rattle.tsumego.specs.declared.task.TreeTask.{TreeTask}
use Rattle.tsumego.specs.declared.task.TreeTask.TheVariants as tasks
use Rattle.tsumego.specs.Headline.{VerdictsOfRunsAreTrue}
use Rattle.tsumego.specs.Tasks.{MakesOutcome}
use Rattle.tsumego.specs.Writing.{WritesAnswer}

module _ (task : TreeTask) (input : List ℕ) where
  whole_begins : (text : List ℕ) (status : ℕ) → IsTreesText (MakesOutcome task) input text status → BeginsTreesText (MakesOutcome task) input text
  whole_begins text status h = subst (λ (x : List ℕ). BeginsTreesText (MakesOutcome task) input x) (sym h.lines) (all_lines h.outcomes h.are)

  earlier_begins : (text : List ℕ) → EarlierTreesText (MakesOutcome task) input text → BeginsTreesText (MakesOutcome task) input text
  earlier_begins text nothing = no_line
  earlier_begins text (before_more os rest small reads more) = some_lines os rest small reads

  -- what was written begins such a text
  pub begun : (result : Result ℕ RunFault) (before written : List ℕ) → WritesAnswer (inputs.Trees task) input result (Some before) (Some (before ++ written))
      → (text more : List ℕ) × BeginsTreesText (MakesOutcome task) input text × (text ≡ written ++ more)
  begun (Ok status) before written w = (w.0, [], whole_begins w.0 status w.1, sym (append_cancel_left before written w.0 w.2) ∙ sym (append-nil written))
  begun (Err Input) before written w = ([], [], no_line, sym (append_cancel_left before written [] (w ∙ sym (append-nil before))) ∙ sym (append-nil written))
  begun (Err Output) before written w = (
    w.0,
    drop w.1 w.0,
    w.2,
    sym (take-append-drop w.1 w.0) ∙ ap (λ (x : List ℕ). x ++ drop w.1 w.0) (sym (append_cancel_left before written (take w.1 w.0) w.3)),
  )
  begun (Err Memory) before written w = (w.0, [], earlier_begins w.0 w.1, sym (append_cancel_left before written w.0 w.2) ∙ sym (append-nil written))

pub verdicts_of_runs_are_true : VerdictLinesAreTrue → VerdictsOfRunsAreTrue
verdicts_of_runs_are_true law Score input result before written w = tt
verdicts_of_runs_are_true law Check input result before written w = tt
verdicts_of_runs_are_true law CheckParts input result before written w = tt
verdicts_of_runs_are_true law (Solve limits workers cert total dfpn parts turns progress) input result before written (inputs.Check shares, is, w) = absurd is
verdicts_of_runs_are_true law (Solve limits workers cert total dfpn parts turns progress) input result before written (inputs.Trees tasks.Score, is, w) = absurd is
verdicts_of_runs_are_true law (Solve limits workers cert total dfpn parts turns progress) input result before written (inputs.Trees (tasks.Solve options), is, w) =
    let h = begun (tasks.Solve options) input result before written w in law options input h.0 written h.1 h.2 h.3
