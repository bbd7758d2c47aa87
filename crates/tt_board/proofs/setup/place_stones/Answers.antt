use Rattle.std.proofs.Common.{None, arith}
use Rattle.std.proofs.lemmas.List.FromFn.{fill_by_all}
use Rattle.tt_sgf.specs.Sizes.{point_count}
use Rattle.tt_board.specs.Setup.{placed, placed_entry}
use Rattle.tt_board.proofs.setup.place_stones.Goals as goal

pub returns : goal.returns
unfolding placed
returns c = fill_by_all (placed_entry c.args.points.now c.args.black.now c.args.white.now c.args.clear.now) c.loop-index.points
    (point_count c.args.size) None c.loop-index.invariant.fits (λ p in_p. c.loop-index.invariant.done p (omega arith))
