use Rattle.std.proofs.Common.{rules}
use Rattle.tt_parts.proofs.OutlineReplayLemmas.{has_position}
use Rattle.tt_parts.proofs.position_footprint.PositionFootprint.fits_line.Goals as goal

pub returns : goal.returns
returns c = (
  λ e. record {
    position = has_position c.args.line.now.frame c.args.line.now.state c.args.self.now (search rules) (search rules) (search rules) (search rules);
    needs = c.all_in_history.ensures.0 c.if-not-all_in_history.false;
    avoids = c.none_in_history.ensures.0 e;
  },
  λ m. c.none_in_history.ensures.1 m.avoids,
)
