use Rattle.tt_proof.proofs.BoundLemmas.{covered_has, has_covered}
use Rattle.tt_proof.proofs.board_set_bounds.has_all_stones.Goals as goal

pub returns : goal.returns
returns c =
    let words = c.bits-there.result.now.words in (
      λ y. covered_has words c.args.colour c.args.board.now c.bits-there.ensures c.args.stones.now (c.is_within_union.ensures.0 y),
      λ h. c.is_within_union.ensures.1 (has_covered words c.args.colour c.args.board.now c.bits-there.ensures c.args.stones.now h),
    )
