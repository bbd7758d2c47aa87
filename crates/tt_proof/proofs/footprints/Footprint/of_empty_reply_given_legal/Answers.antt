use Rattle.tt_proof.proofs.FootprintLemmas.{foot_plays}
use Rattle.tt_proof.proofs.footprints.Footprint.of_empty_reply_given_legal.Goals as goal

pub returns : goal.returns
returns c = foot_plays c.args.line.now.frame c.args.line.now.state _ c.in_ok-needs.ensures.sized c.in_ok-needs.ensures.exact c.new.ensures
