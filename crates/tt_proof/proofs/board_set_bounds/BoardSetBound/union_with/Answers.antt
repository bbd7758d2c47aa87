use Rattle.tt_board.specs.declared.Colour.TheVariants.{Black, White}
use Rattle.tt_sgf.specs.MachineWords.{bit_in}
use Rattle.std.proofs.Common.{◌∙◌}
use Rattle.tt_proof.specs.BoardSetBounds.{hash_bit}
use Rattle.tt_proof.proofs.BoundLemmas.{or_left, or_right, has_left, has_right, hash_small}
use Rattle.tt_proof.proofs.board_set_bounds.BoardSetBound.union_with.Goals as goal

pub returns-clause-left : goal.returns-clause-left
returns-clause-left c b h =
    let x = c.args.self.now in let y = c.args.other.now in let n = hash_bit b in (
      has_left x.black y.black c.and.result c.and.ensures Black b h.0,
      has_left x.white y.white c.and-2.result c.and-2.ensures White b h.1,
      c.or.ensures n (hash_small b) ∙ or_left (bit_in x.hashes.words n) (bit_in y.hashes.words n) h.2,
    )

pub returns-clause-right : goal.returns-clause-right
returns-clause-right c b h =
    let x = c.args.self.now in let y = c.args.other.now in let n = hash_bit b in (
      has_right x.black y.black c.and.result c.and.ensures Black b h.0,
      has_right x.white y.white c.and-2.result c.and-2.ensures White b h.1,
      c.or.ensures n (hash_small b) ∙ or_right (bit_in x.hashes.words n) (bit_in y.hashes.words n) h.2,
    )
