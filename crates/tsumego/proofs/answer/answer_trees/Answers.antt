use Rattle.std.proofs.Common.{◌≡◌, ◌⊎◌, inl, inr, Err, ap, rules, arith, length, take, drop, ◌-◌}
use Rattle.std.proofs.lemmas.List.{length-drop, length-take-le}
use Rattle.std.proofs.lemmas.Result.{err_from_is_err_and}
use Rattle.tt_sgf.specs.Grammar.{HasOpeningParenthesis}
use Rattle.tsumego.proofs.TreeByTree.{progress_ended, progress_fault, progress_kept, progress_refused, progress_step}
use Rattle.tsumego.proofs.answer.answer_trees.Goals as goal
use Rattle.tsumego.proofs.answer.answer_trees.Goals.{then-number-eq1, else-number-eq1+then-has_tree}

pub returns-in_err-bad-in-Ok-clause-written : goal.returns-in_err-bad-in-Ok-clause-written
returns-in_err-bad-in-Ok-clause-written g c =
    let found = c.in-Ok.ensures.found in
    let goes : (c.loop-number.number ≡ 1) ⊎ HasOpeningParenthesis c.loop-number.rest.now =
    elim c.if-number-eq1.branch [ then-number-eq1 w ↦ inl w.if-number-eq1.true | else-number-eq1+then-has_tree w ↦ inr (search (rules, w.if-has_tree.true)) ] in
    let p = err_from_is_err_and c.from_residual.result c.from_residual.ensures.1 in
    rw (p.1, p.2) (progress_fault c.loop-number.invariant.progress _ goes c.in-Ok.bytes found.0 c.in-Ok.main.nodes c.in_err-bad-in-Ok.field-0.0 found.1 found.2
    c.in-Ok.ensures.within.2 c.in_err-bad-in-Ok.ensures.written)

pub loop-number-smaller : goal.loop-number-smaller
loop-number-smaller g c =
    let rest = c.loop-number.rest.now in
    let used = c.in-Ok.bytes in
    let left : length (take (length rest - used) (drop used rest)) ≡ length rest - used = length-take-le (length rest - used) (drop used rest) (omega (arith, length-drop used rest)) in
    let within = c.in-Ok.ensures.within in
    omega (arith, left, within.0, within.1)

pub loop-number-preserved : goal.loop-number-preserved
loop-number-preserved g c =
    let rest = c.loop-number.rest.now in
    let used = c.in-Ok.bytes in
    let found = c.in-Ok.ensures.found in
    let left : length (take (length rest - used) (drop used rest)) ≡ length rest - used = length-take-le (length rest - used) (drop used rest) (omega (arith, length-drop used rest)) in
    let within = c.in-Ok.ensures.within in
    record {
      worked = c.in_ok-bad-in-Ok.ensures.failed;
      bound = omega (arith, left, within.0, within.1, c.loop-number.invariant.bound);
      progress = progress_step c.loop-number.invariant.progress _ used found.0 c.in-Ok.main.nodes c.in_ok-bad-in-Ok.bad found.1 found.2
          c.in-Ok.ensures.within.2 c.in_ok-bad-in-Ok.ensures.written;
    }

pub returns-in-Err-clause-written : goal.returns-in-Err-clause-written
returns-in-Err-clause-written g c =
    let goes : (c.loop-number.number ≡ 1) ⊎ HasOpeningParenthesis c.loop-number.rest.now =
    elim c.if-number-eq1.branch [ then-number-eq1 w ↦ inl w.if-number-eq1.true | else-number-eq1+then-has_tree w ↦ inr (search (rules, w.if-has_tree.true)) ] in
    progress_refused c.loop-number.invariant.progress _ goes c.in-Err.fault (search rules) (λ e. c.in-Err.ensures.syntax (ap Err e)) (λ e. c.in-Err.ensures.too_long.0 (ap Err e))
    c.loop-number.invariant.bound c.write_refusal.result c.write_refusal.ensures.status (rw c.code.ensures at c.write_refusal.ensures.written)

pub returns-in-Err-NoMemory-clause-written : goal.returns-in-Err-NoMemory-clause-written
returns-in-Err-NoMemory-clause-written g c =
    let goes : (c.loop-number.number ≡ 1) ⊎ HasOpeningParenthesis c.loop-number.rest.now =
    elim c.if-number-eq1.branch [ then-number-eq1 w ↦ inl w.if-number-eq1.true | else-number-eq1+then-has_tree w ↦ inr (search (rules, w.if-has_tree.true)) ] in
    progress_kept c.loop-number.invariant.progress _ goes (search rules)

pub returns-then-refused-clause-written : goal.returns-then-refused-clause-written
returns-then-refused-clause-written g c =
    progress_ended c.loop-number.invariant.progress c.if-number-eq1.false (search (rules, c.if-has_tree.false)) 1 (search (rules, c.if-refused.true))

pub returns-else-refused-clause-written : goal.returns-else-refused-clause-written
returns-else-refused-clause-written g c =
    progress_ended c.loop-number.invariant.progress c.if-number-eq1.false (search (rules, c.if-has_tree.false)) 0 (search (rules, c.if-refused.false))
