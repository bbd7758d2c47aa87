use Rattle.std.proofs.Common.{rules}
use Rattle.tt_parts.proofs.OutlineReplayLemmas.{has_position, rests_on_repeats}
use Rattle.tt_parts.proofs.position_footprint.PositionFootprint.of_empty_reply.Goals as goal

pub returns : goal.returns
returns c =
    let f = c.args.line.now.frame in
    let s = c.args.line.now.state in
    rests_on_repeats f s c.in_ok-needs.field-0 _ c.in_ok-needs.ensures (has_position f s _ (search rules) (search rules) (search rules) (search rules)) c.in_ok-needs-2.ensures c.in_ok-avoids.ensures
