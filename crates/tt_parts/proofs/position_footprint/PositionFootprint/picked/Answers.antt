use Rattle.std.proofs.Common.{rules}
use Rattle.tt_parts.proofs.OutlineReplayLemmas.{has_position, iff_chain, or_second, passed_up, made_board}
use Rattle.tt_parts.proofs.position_footprint.PositionFootprint.picked.Goals as goal

pub returns : goal.returns
returns c =
    let f = c.args.line.now.frame in
    let s = c.args.line.now.state in
    let t = c.args.turn.now in
    record {
      position = has_position f s _ (search rules) (search rules) (search rules) (search rules);
      needs = λ b. iff_chain (c.in_ok-needs.ensures b) (passed_up f s t c.args.board.now c.requires c.args.self.needs b);
      avoids = λ b. or_second (c.in_ok-avoids.ensures b) (made_board f s t c.args.board.now c.requires b);
    }
