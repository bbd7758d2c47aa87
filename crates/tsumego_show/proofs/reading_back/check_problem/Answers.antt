use Rattle.std.proofs.Common.{rules, ◌≡◌, false, sym, subst, ◌∙◌}
use Rattle.std.proofs.lemmas.Bool.{false≢true}
use Rattle.tt_game.specs.Line.{LineWithUndo, SnapshotState}
use Rattle.tsumego_show.proofs.ReadBack.{problem_same}
use Rattle.tsumego_show.proofs.reading_back.check_problem.Goals as goal

pub returns-in-Err-clause-other : goal.returns-in-Err-clause-other
returns-in-Err-clause-other c = λ same reads.
    let none = c.in-Err.ensures.other (search rules) in
    let read = reads none.0 in
    none.1 read.0 read.1

pub returns-then-is_state_of-clause-reads : goal.returns-then-is_state_of-clause-reads
returns-then-is_state_of-clause-reads c =
    let there = rw c.in-Ok-Some.field-0-is at c.in-Ok-Some.ensures.read in
    λ _. (c.in-Ok-Some.found, there.1, search rules, search rules)

pub returns-clause-other : goal.returns-clause-other
returns-clause-other c = λ same reads.
    let line = c.args.line.now in
    let there = rw c.in-Ok-Some.field-0-is at c.in-Ok-Some.ensures.read in
    let read = reads there.0 in
    let one = problem_same c.grammar_is_unambiguous.ensures c.args.text.now read.0 c.in-Ok-Some.found read.1 there.1 in
    let met = subst (λ (q : LineWithUndo). (q.frame ≡ line.frame) × (q.state ≡ line.state)) one (read.2, read.3) in
    let kept = subst (λ (s : SnapshotState). (s.frame ≡ line.frame) × (s.state ≡ line.state)) (sym c.in-Ok.ensures) met in
    let off : c.is_state_of.result ≡ false = search rules in
    absurd (false≢true (sym off ∙ c.is_state_of.ensures.1 kept))
