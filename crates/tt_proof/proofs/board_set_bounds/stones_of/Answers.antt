use Rattle.tt_proof.proofs.BoundLemmas.{bit_stands}
use Rattle.tt_proof.proofs.board_set_bounds.stones_of.Goals as goal

pub returns : goal.returns
returns c = bit_stands c.bits.result.now.words c.args.colour c.args.board.now c.bits.ensures
