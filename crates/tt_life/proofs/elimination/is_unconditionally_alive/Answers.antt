use Rattle.std.proofs.Common.{ap}
use Rattle.tt_sgf.specs.Sizes.{point_count}
use Rattle.tt_life.proofs.GroundLemmas.{stones_on, own_stones, targets_left, targets_alive}
use Rattle.tt_life.proofs.elimination.is_unconditionally_alive.Goals as goal

pub eliminate-left-requires-clause-on_board : goal.eliminate-left-requires-clause-on_board
eliminate-left-requires-clause-on_board c =
    stones_on c.args.frame.now c.args.board.now.points (point_count c.args.board.now.size) (ap point_count c.requires.same_size) c.args.frame.now.defender
    c.bits-defenders.result.now.words c.bits-defenders.ensures

pub returns : goal.returns
returns c =
    let own = own_stones c.args.frame.now c.args.board.now.points (point_count c.args.board.now.size) (ap point_count c.requires.same_size)
    c.bits-defenders.result.now.words c.bits-defenders.ensures in
    let most = c.eliminate-left.ensures.most c.args.board.now.points c.ground_of-ground.ensures.ground own in (
      λ h. targets_left c.args.frame.now c.args.board.now.points (point_count c.args.board.now.size) (ap point_count c.requires.same_size) c.bits-defenders.result.now.words c.bits-defenders.ensures
          c.eliminate-left.result.words c.bits-targets.result.now.words c.bits-targets.ensures c.requires.targets_on_board most (c.is_within_union.ensures.0 h),
      λ h. c.is_within_union.ensures.1 (targets_alive c.args.frame.now c.args.board.now.points (point_count c.args.board.now.size) (ap point_count c.requires.same_size)
          c.bits-defenders.result.now.words c.bits-defenders.ensures c.eliminate-left.result.words c.bits-targets.result.now.words c.bits-targets.ensures c.requires.targets_on_board most h),
    )
