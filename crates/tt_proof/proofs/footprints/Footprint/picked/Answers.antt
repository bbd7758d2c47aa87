use Rattle.std.proofs.Common.{refl}
use Rattle.tt_proof.proofs.FootprintLemmas.{foot_pick}
use Rattle.tt_proof.proofs.SharedLemmas.{other_order}
use Rattle.tt_proof.proofs.footprints.Footprint.picked.Goals as goal

pub returns : goal.returns
returns c =
    let needs = rw c.requires.board at c.remove_made_board.ensures in
    let played = rw c.requires.board at c.in_ok-add_made_board.ensures in
    λ u foot. foot_pick c.args.line.now.frame c.args.line.now.state c.args.turn.now u c.args.behind _ c.requires.legal foot
    (record {
      needed = needs;
      avoided = λ b. other_order _ _ _ (played b);
      met = refl;
    })
