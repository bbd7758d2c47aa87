use Rattle.std.proofs.Common.{◌∙◌, sym, ap}
use Rattle.std.proofs.lemmas.Bool.{true≢false}
use Rattle.std.specs.FinSet as set
use Rattle.std.specs.Ordering.{nat_cmp}
use Rattle.tt_sgf.specs.Sizes.{point_count}
use Rattle.tt_sgf.specs.MachineWords.{bit_in}
use Rattle.tt_board.specs.Play.{other}
use Rattle.tt_marks.proofs.SetLemmas.{passing_on_board, same_as_set}
use Rattle.tt_marks.proofs.WallLemmas.{danger_around}
use Rattle.tt_marks.proofs.danger.wall_in_danger.Goals as goal

pub returns-then-not-is_inner-clause-taken : goal.returns-then-not-is_inner-clause-taken
returns-then-not-is_inner-clause-taken c = λ p in_p h. absurd (true≢false (sym h ∙ ap (λ x. set.contains x p) c.empty.ensures ∙ set.contains-empty nat_cmp p))

pub returns-then-not-is_inner-clause-on_board : goal.returns-then-not-is_inner-clause-on_board
returns-then-not-is_inner-clause-on_board c = λ p h. absurd (true≢false (sym h ∙ ap (λ x. set.contains x p) c.empty.ensures ∙ set.contains-empty nat_cmp p))

pub returns-clause-taken : goal.returns-clause-taken
returns-clause-taken c = λ p in_p h.
    danger_around c.args.board.now.size c.args.board.now.points (other c.args.colour) c.args.stone c.bits-stones.result.now.words c.within-inside.result.words c.beside.result.words
    c.and-around.result.words c.stones_with_liberty_outside-safe.result.words c.minus.result.words (rw c.other-attacker.ensures at c.bits-stones.ensures)
    (rw c.size-size.ensures.value at c.within-inside.ensures.those) (rw c.other-attacker.ensures at c.stones_with_liberty_outside-safe.ensures.those) c.and-around.ensures c.minus.ensures
    p in_p (sym (same_as_set (bit_in c.minus.result.words) (point_count c.args.board.now.size) c.set_of-2.result (rw c.size-size.ensures.value at c.set_of-2.ensures) p in_p) ∙ h)

pub returns-clause-on_board : goal.returns-clause-on_board
returns-clause-on_board c = passing_on_board (bit_in c.minus.result.words) (point_count c.args.board.now.size) c.set_of-2.result (rw c.size-size.ensures.value at c.set_of-2.ensures)
