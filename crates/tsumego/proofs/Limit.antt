-- Lemmas on inputs past the limit, of which only a part is read.
use Rattle.std.proofs.Common.{refl, true, false, ◌≡◌, ◌≤◌, ◌+◌, ℕ, Bool, List, [], inl, inr, Option, None, Some, Ok, Err, length, take, arith, subst}
use Rattle.std.specs.declared.result.Result.{Result}
use Rattle.std.proofs.KnownBytes.{Appends-nil, Keeps-refl}
use Rattle.tt_sgf.specs.declared.trees.TheConstants.{MAX_BYTES}
use Rattle.devices.specs.declared.fault.RunFault.{RunFault}
use Rattle.devices.specs.declared.fault.RunFault.TheVariants.{Input, Output, Memory}
use Rattle.tt_text.specs.declared.outcome.TreeOutcome.{TreeOutcome}
use Rattle.tt_sgf.specs.declared.nodes.Node.{Node}
use Rattle.tt_text.specs.declared.checking.CheckOutcome.{CheckOutcome}
use Rattle.tt_text.specs.Checking.{Finds, IsCheckText, first_tree, no_tree}
use Rattle.tt_text.specs.Checking as find
use Rattle.tsumego.specs.declared.request.Command.{Command}
use Rattle.tsumego.specs.declared.task.InputTask.{InputTask}
use Rattle.tsumego.specs.declared.task.InputTask.TheVariants.{Trees, Check}
use Rattle.tsumego.specs.Tasks.{IsTaskOf, MakesOutcome}
use Rattle.tt_text.specs.Trees.{AreOutcomes, BeginsTreesText, EarlierTreesText, IsTreesText, all_lines, all_read, before_more, no_line, nothing, some_lines, stopped, too_long}
use Rattle.devices.specs.Watching.{IsReadInput}
use Rattle.devices.specs.laws.PrefixLaws.{prefix_is_whole_or_full}
use Rattle.devices.specs.Faults.{is_output_fault}
use Rattle.devices.specs.Writing.{HoldsForInput}
use Rattle.tsumego.specs.Writing.{CommandWrites, WritesAnswer}

module _ (allowed : List Node → TreeOutcome → Type 0) where
  -- outcomes for a part of the input that is too long as well are outcomes for the input
  long_outcomes : (input part : List ℕ) (os : List TreeOutcome) → length part ≡ MAX_BYTES + 1 → MAX_BYTES + 1 ≤ length input → AreOutcomes allowed part os → AreOutcomes allowed input os
  long_outcomes input part os e le (too_long long) = too_long (omega arith)
  long_outcomes input part os e le (all_read os' rest small reads some none) = absurd (omega arith)
  long_outcomes input part os e le (stopped os' rest small reads why none) = absurd (omega arith)

  -- outcomes for the part up to the limit are outcomes for the input
  outcomes_whole : (input : List ℕ) (os : List TreeOutcome) → AreOutcomes allowed (take (MAX_BYTES + 1) input) os → AreOutcomes allowed input os
  outcomes_whole input os h = elim (prefix_is_whole_or_full (MAX_BYTES + 1) input) [
    | inl e ↦ subst (λ (x : List ℕ). AreOutcomes allowed x os) e h
    | inr p ↦ long_outcomes input (take (MAX_BYTES + 1) input) os p.0 p.1 h
  ]

  -- a text on that part's trees is one on the input's
  trees_whole : (input text : List ℕ) (status : ℕ) → IsTreesText allowed (take (MAX_BYTES + 1) input) text status → IsTreesText allowed input text status
  trees_whole input text status h = record { outcomes = h.outcomes; are = outcomes_whole input h.outcomes h.are; lines = h.lines; status_is = h.status_is }

  -- a beginning of a text on that part is a beginning of one on the input
  trees_begun : (input text : List ℕ) → BeginsTreesText allowed (take (MAX_BYTES + 1) input) text → BeginsTreesText allowed input text
  trees_begun input text no_line = no_line
  trees_begun input text (all_lines os h) = all_lines os (outcomes_whole input os h)
  trees_begun input text (some_lines os rest small reads) = elim (prefix_is_whole_or_full (MAX_BYTES + 1) input) [
    | inl e ↦ subst (λ (x : List ℕ). BeginsTreesText allowed x text) e (some_lines os rest small reads)
    | inr p ↦ absurd (omega (arith, p.0))
  ]

  -- and so it is with an earlier part
  trees_earlier : (input text : List ℕ) → EarlierTreesText allowed (take (MAX_BYTES + 1) input) text → EarlierTreesText allowed input text
  trees_earlier input text nothing = nothing
  trees_earlier input text (before_more os rest small reads more) = elim (prefix_is_whole_or_full (MAX_BYTES + 1) input) [
    | inl e ↦ subst (λ (x : List ℕ). EarlierTreesText allowed x text) e (before_more os rest small reads more)
    | inr p ↦ absurd (omega (arith, p.0))
  ]

module _ (parts : Bool) where
  -- what is found on a part of the input that is too long as well is found on the input
  long_found : (input part : List ℕ) (o : CheckOutcome) → length part ≡ MAX_BYTES + 1 → MAX_BYTES + 1 ≤ length input → Finds parts part o → Finds parts input o
  long_found input part o e le (find.too_long long) = find.too_long (omega arith)
  long_found input part o e le (no_tree small none) = absurd (omega arith)
  long_found input part o e le (first_tree count t o' small s h) = absurd (omega arith)

  -- what is found on the part up to the limit is found on the input
  found_whole : (input : List ℕ) (o : CheckOutcome) → Finds parts (take (MAX_BYTES + 1) input) o → Finds parts input o
  found_whole input o h = elim (prefix_is_whole_or_full (MAX_BYTES + 1) input) [
    | inl e ↦ subst (λ (x : List ℕ). Finds parts x o) e h
    | inr p ↦ long_found input (take (MAX_BYTES + 1) input) o p.0 p.1 h
  ]

  -- what `check` writes for that part it writes for the input
  check_whole : (input text : List ℕ) (status : ℕ) → IsCheckText parts (take (MAX_BYTES + 1) input) text status → IsCheckText parts input text status
  check_whole input text status h = record { finding = h.finding; finds = found_whole input h.finding h.finds; line = h.line; status_is = h.status_is }

-- what is written on the part up to the limit is written on the input
writes_whole : (t : InputTask) (input : List ℕ) (r : Result ℕ RunFault) (a b : Option (List ℕ)) → WritesAnswer t (take (MAX_BYTES + 1) input) r a b → WritesAnswer t input r a b
writes_whole (Trees task) input (Ok status) a b w = (w.0, trees_whole (MakesOutcome task) input w.0 status w.1, w.2)
writes_whole (Trees task) input (Err Input) a b w = w
writes_whole (Trees task) input (Err Output) a b w = (w.0, w.1, trees_begun (MakesOutcome task) input w.0 w.2, w.3)
writes_whole (Trees task) input (Err Memory) a b w = (w.0, trees_earlier (MakesOutcome task) input w.0 w.1, w.2)
writes_whole (Check parts) input (Ok status) a b w = (w.0, check_whole parts input w.0 status w.1, w.2)
writes_whole (Check parts) input (Err Input) a b w = w
writes_whole (Check parts) input (Err Output) a b w = (w.0, w.1, elim w.2 [ inl e ↦ inl e | inr h ↦ inr (h.0, check_whole parts input w.0 h.0 h.1) ], w.3)
writes_whole (Check parts) input (Err Memory) a b w = w

-- where memory or the input failed, a run may have written nothing
nothing_written : (t : InputTask) (input : List ℕ) (e : RunFault) (a : Option (List ℕ)) → is_output_fault {A = ℕ} (Err e) ≡ false → WritesAnswer t input (Err e) a a
nothing_written (Trees task) input Input a quiet = Keeps-refl a
nothing_written (Check parts) input Input a quiet = Keeps-refl a
nothing_written t input Output a quiet = let bad : true ≡ false = quiet in cc
nothing_written (Trees task) input Memory a quiet = ([], nothing, Appends-nil a)
nothing_written (Check parts) input Memory a quiet = ([], refl, Appends-nil a)

-- what is written for the command's task on what was read the command writes on what the reader had to give
pub command_writes_read : (c : Command) (given : Option (List ℕ)) (bytes : List ℕ) (r : Result ℕ RunFault) (a b : Option (List ℕ)) (task : InputTask)
    → IsTaskOf c task → IsReadInput (MAX_BYTES + 1) given bytes → WritesAnswer task bytes r a b → HoldsForInput given (λ input. CommandWrites c input r a b)
command_writes_read c None bytes r a b task is e w = (bytes, (task, is, w))
command_writes_read c (Some input) bytes r a b task is e w = (task, is, writes_whole task input r a b (subst (λ (x : List ℕ). WritesAnswer task x r a b) e w))

-- where memory or the input failed, the command may have written nothing
pub command_writes_nothing : (c : Command) (given : Option (List ℕ)) (e : RunFault) (a : Option (List ℕ)) (task : InputTask) → IsTaskOf c task
    → is_output_fault {A = ℕ} (Err e) ≡ false → HoldsForInput given (λ input. CommandWrites c input (Err e) a a)
command_writes_nothing c None e a task is quiet = ([], (task, is, nothing_written task [] e a quiet))
command_writes_nothing c (Some input) e a task is quiet = (task, is, nothing_written task input e a quiet)
