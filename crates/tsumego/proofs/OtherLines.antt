-- What a run wrote is a beginning of an answer, so that its other lines are true too.
use Rattle.std.proofs.Common.{◌≡◌, ◌∙◌, ◌⊎◌, inl, inr, ℕ, Bool, List, [], ◌∷◌, ◌++◌, Option, Some, Result, Ok, Err}
use Rattle.std.proofs.Common.{arith, codes, sym, ap, subst, append-nil, length, take, drop}
use Rattle.std.proofs.lemmas.List.{append_cancel_left, take-append-drop, take_all}
use Rattle.devices.specs.declared.fault.RunFault.{RunFault}
use Rattle.devices.specs.declared.fault.RunFault.TheVariants.{Input, Output, Memory}
use Rattle.tt_search.specs.declared.limits.Limits.{Limits}
use Rattle.tt_text.specs.Checking.{IsCheckText}
use Rattle.tt_text.specs.Headline.{lines_of}
use Rattle.tt_text.specs.OtherLines.{AreTrueCheckLines, AreTrueSolveLines, CheckLinesAreTrue, ScoreLinesAreTrue, SolveLinesAreTrue}
use Rattle.tsumego.specs.declared.request.Command.TheVariants.{Score, Check, CheckParts, Solve}
use Rattle.tsumego.specs.declared.task.InputTask.TheVariants as inputs
use Rattle.tsumego.specs.declared.task.TreeTask.TheVariants as tasks
use Rattle.tsumego.specs.OtherLines.{LinesOfRunsAreTrue}
use Rattle.tsumego.specs.Writing.{WritesAnswer}
use Rattle.tsumego.proofs.Headline.{begun}

-- nothing has no line
no_line_there : (parts : Bool) (input : List ℕ) (above below : List (List ℕ)) → [] ≡ above ++ (codes "valid" ∷ below) → ⊥
no_line_there parts input [] below e = let bad : [] ≡ codes "valid" ∷ below = e in cc
no_line_there parts input (a ∷ above) below e = let bad : [] ≡ a ∷ (above ++ (codes "valid" ∷ below)) = e in cc

nothing_written : (parts : Bool) (input written : List ℕ) → written ≡ [] → AreTrueCheckLines parts input (lines_of written)
nothing_written parts input written e above below at = absurd (no_line_there parts input above below (sym (ap lines_of e) ∙ at))

module _ (law : CheckLinesAreTrue) (parts : Bool) (input : List ℕ) where
  -- a beginning of the text, which may be nothing
  checked_beginning : (text written : List ℕ) (n : ℕ) → (text ≡ []) ⊎ ((status : ℕ) × IsCheckText parts input text status) → written ≡ take n text
      → AreTrueCheckLines parts input (lines_of written)
  checked_beginning text written n (inl none) e = nothing_written parts input written (e ∙ take_all n text (omega (arith, ap length none)) ∙ none)
  checked_beginning text written n (inr is) e = law parts input text written (drop n text) is.0 is.1 (sym (take-append-drop n text) ∙ ap (λ (x : List ℕ). x ++ drop n text) (sym e))

  checked : (result : Result ℕ RunFault) (before written : List ℕ) → WritesAnswer (inputs.Check parts) input result (Some before) (Some (before ++ written))
      → AreTrueCheckLines parts input (lines_of written)
  checked (Ok status) before written w = law parts input w.0 written [] status w.1 (sym (append_cancel_left before written w.0 w.2) ∙ sym (append-nil written))
  checked (Err Input) before written w = nothing_written parts input written (append_cancel_left before written [] (w ∙ sym (append-nil before)))
  checked (Err Output) before written w = checked_beginning w.0 written w.1 w.2 (append_cancel_left before written (take w.1 w.0) w.3)
  checked (Err Memory) before written w = nothing_written parts input written (append_cancel_left before written w.0 w.2 ∙ w.1)

pub lines_of_runs_are_true : SolveLinesAreTrue → ScoreLinesAreTrue → CheckLinesAreTrue → LinesOfRunsAreTrue
lines_of_runs_are_true solves scores checks Score input result before written (inputs.Check parts, is, w) = absurd is
lines_of_runs_are_true solves scores checks Score input result before written (inputs.Trees tasks.Score, is, w) =
    let h = begun tasks.Score input result before written w in scores input h.0 written h.1 h.2 h.3
lines_of_runs_are_true solves scores checks Score input result before written (inputs.Trees (tasks.Solve options), is, w) = absurd is
lines_of_runs_are_true solves scores checks Check input result before written (inputs.Check parts, is, w) =
    subst (λ (b : Bool). AreTrueCheckLines b input (lines_of written)) is (checked checks parts input result before written w)
lines_of_runs_are_true solves scores checks Check input result before written (inputs.Trees tasks.Score, is, w) = absurd is
lines_of_runs_are_true solves scores checks Check input result before written (inputs.Trees (tasks.Solve options), is, w) = absurd is
lines_of_runs_are_true solves scores checks CheckParts input result before written (inputs.Check parts, is, w) =
    subst (λ (b : Bool). AreTrueCheckLines b input (lines_of written)) is (checked checks parts input result before written w)
lines_of_runs_are_true solves scores checks CheckParts input result before written (inputs.Trees tasks.Score, is, w) = absurd is
lines_of_runs_are_true solves scores checks CheckParts input result before written (inputs.Trees (tasks.Solve options), is, w) = absurd is
lines_of_runs_are_true solves scores checks (Solve limits workers cert total dfpn parts turns progress) input result before written (inputs.Check shares, is, w) = absurd is
lines_of_runs_are_true solves scores checks (Solve limits workers cert total dfpn parts turns progress) input result before written (inputs.Trees tasks.Score, is, w) = absurd is
lines_of_runs_are_true solves scores checks (Solve limits workers cert total dfpn parts turns progress) input result before written (inputs.Trees (tasks.Solve options), is, w) =
    let h = begun (tasks.Solve options) input result before written w in
    subst (λ (l : Limits). AreTrueSolveLines l total input (lines_of written)) is.0
    (subst (λ (n : Option ℕ). AreTrueSolveLines options.limits n input (lines_of written)) is.2 (solves options input h.0 written h.1 h.2 h.3))
