use Rattle.std.proofs.Common.{rules, refl}
use Rattle.tt_parts.proofs.OutlineReplayLemmas.{has_position, iff_chain, passed_up}
use Rattle.tt_parts.proofs.position_footprint.PositionFootprint.before_opposing_turn.Goals as goal

pub returns : goal.returns
returns c =
    let f = c.args.line.now.frame in
    let s = c.args.line.now.state in
    record {
      position = has_position f s _ (search rules) (search rules) (search rules) (search rules);
      needs = λ b. iff_chain (c.in_ok-needs.ensures b) (passed_up f s c.args.turn.now c.args.board.now c.requires c.args.self.needs b);
      avoids = refl;
    }
