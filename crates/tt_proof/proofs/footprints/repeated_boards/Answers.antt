use Rattle.std.proofs.Common.{Contains, arith}
use Rattle.tt_proof.specs.KeptFootprints.{board_of_colouring}
use Rattle.tt_proof.proofs.FootprintLemmas.{none_held}
use Rattle.tt_proof.proofs.RepeatLemmas.{below_more, below_all}
use Rattle.tt_proof.proofs.footprints.repeated_boards.Goals as goal

pub loop-p-init : goal.loop-p-init
loop-p-init c =
    let f = c.args.line.now.frame in
    record {
      sized = λ b m. absurd (none_held _ b c.new-needs.ensures m);
      shown = λ x. (λ m. absurd (none_held _ (board_of_colouring f x) c.new-needs.ensures m), λ w. let lt = w.1 in absurd (omega (arith, lt)));
    }

pub loop-p-preserved : goal.loop-p-preserved
loop-p-preserved c =
    let f = c.args.line.now.frame in
    let s = c.args.line.now.state in
    let outside = rw c.frame.ensures.value at c.in-Some.ensures.2 in
    record {
      sized = c.in_ok-add_repeated_board.ensures.sized c.loop-p.invariant.sized;
      shown =
          rw c.number-from.ensures.number
          (below_more f s (λ x. Contains c.loop-p.needs (board_of_colouring f x)) (λ x. Contains c.add_repeated_board.new.needs (board_of_colouring f x)) c.loop-p.from c.in-Some.p
          c.in-Some.ensures.1 outside c.loop-p.invariant.shown c.in_ok-add_repeated_board.ensures.more);
    }

pub returns-clause-exact : goal.returns-clause-exact
returns-clause-exact c =
    let f = c.args.line.now.frame in
    let s = c.args.line.now.state in
    let outside = rw c.frame.ensures.value at c.in_default.ensures in
    below_all f s (λ x. Contains c.loop-p.needs (board_of_colouring f x)) c.loop-p.from outside c.loop-p.invariant.shown
