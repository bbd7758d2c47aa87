use Rattle.std.proofs.Common.{subst}
use Rattle.tt_board.specs.Position.{Position}
use Rattle.tt_proof.specs.inside.Collecting.{IsMadeWithin}
use Rattle.tt_proof.proofs.ResultLemmas.{on_ok}
use Rattle.tt_proof.proofs.FootprintLemmas.{foot_entry, otherwise}
use Rattle.tt_proof.proofs.footprints.Footprint.join_reply_turn.Goals as goal

pub returns : goal.returns
returns c =
    let given = rw c.requires.board at c.remove_made_board.ensures in
    on_ok c.join-2.result _ _
    (λ more u foot. foot_entry c.args.line.now.frame c.args.line.now.state c.args.turn.now u c.args.behind c.args.self.now _ c.requires.legal foot
    (λ b. otherwise _ _ _ _ (c.in_ok-join.ensures b) (given b)) more
    (record {
      before = c.widened_bound-self.ensures.before;
      below = c.widened_bound-self.ensures.behind;
      made = subst (λ (b : Position). IsMadeWithin c.args.turn.now b c.widened_bound-self.result) c.requires.board c.widened_bound-self.ensures.made;
    }))
    c.join-2.ensures
