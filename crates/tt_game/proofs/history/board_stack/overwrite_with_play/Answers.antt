use Rattle.std.proofs.Common.{◌<◌, arith}
use Rattle.tt_board.specs.Position.{Position}
use Rattle.tt_board.specs.Play.{play_of}
use Rattle.tt_game.specs.inside.Undoing.{board_on}
use Rattle.tt_game.proofs.BoardStackLemmas.{written_split}
use Rattle.tt_game.proofs.history.board_stack.overwrite_with_play.Goals as goal

pub returns-else-k-eq0 : goal.returns-else-k-eq0
returns-else-k-eq0 c =
    let k = c.args.k in
    let some : 0 < k = omega (arith, c.if-k-eq0.false) in
    written_split c.args.first.now c.index-below-k.result c.become_after-else-k-eq0.new.self c.args.later.now c.split_at_mut-below.result.0.now c.split_at_mut-below.result.1.now k
    (λ (q : Position). board_on q.size (play_of q.size q.points c.args.colour c.args.p)) c.split_at_mut-below.ensures.value c.split_at_mut-below.ensures.front_len some
    c.become_after-else-k-eq0.ensures
