use Rattle.std.proofs.Common.{◌<◌, length, ap, ◌∙◌, arith}
use Rattle.tt_board.specs.Position.{Position}
use Rattle.tt_board.specs.Reach.{entry_at}
use Rattle.tt_game.proofs.GameHistoryLemmas.{been_at}
use Rattle.tt_game.proofs.history.root.union_of_stones.Goals as goal

pub returns : goal.returns
returns c = λ col p has sizes stone.
    let bs = c.args.boards.now in
    let at = been_at bs col has in
    let j = at.0 in let b = at.1 in
    let lt : j < length bs = at.2 in
    c.loop-board.invariant j b p (omega (arith, lt, c.loop-board-test.false)) (sizes j b lt)
    (ap (λ (x : Position). entry_at x.points p) (at.3 b) ∙ ap (λ x. entry_at x p) at.4 ∙ stone)
