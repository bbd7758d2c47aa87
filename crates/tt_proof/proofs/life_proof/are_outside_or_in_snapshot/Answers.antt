use Rattle.std.proofs.Common.{rules, ◌≡◌, ◌<◌, ◌≤◌, length, get_or, Contains, IsTrue, refl, arith}
use Rattle.tt_board.specs.Position.{Position}
use Rattle.tt_game.specs.Game.{history}
use Rattle.tt_proof.specs.BoardSetBounds.{MayContainBoard}
use Rattle.tt_proof.proofs.SharedLemmas.{shown_at, one_more_place}
use Rattle.tt_proof.proofs.life_proof.are_outside_or_in_snapshot.Goals as goal

pub loop-board-preserved : goal.loop-board-preserved
loop-board-preserved c =
    let boards = c.args.boards.now in
    let n = c.loop-board.board-index in
    let lt : n < length boards = search rules in
    let is : c.board-item.result ≡ get_or boards n c.board-item.result = search rules in
    let known : IsTrue c.is_outside_or_in_snapshot.result = search rules in
    one_more_place boards (λ (x : Position). MayContainBoard c.args.bound.now x → Contains (history c.args.snapshot.now.state) x.points) n c.board-item.result
    c.loop-board.invariant (shown_at boards boards n c.board-item.result refl lt is) (c.is_outside_or_in_snapshot.ensures known)

pub returns : goal.returns
returns c =
    let all : length c.args.boards.now ≤ c.loop-board.board-index = search rules in
    λ y k d lt. c.loop-board.invariant k d (omega (arith, lt, all))
