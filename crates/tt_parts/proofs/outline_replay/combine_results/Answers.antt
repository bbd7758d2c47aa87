use Rattle.std.proofs.Common.{refl}
use Rattle.tt_parts.proofs.outline_replay.combine_results.Goals as goal

pub returns-in_ok-joined-in-Won-second-2 : goal.returns-in_ok-joined-in-Won-second-2
returns-in_ok-joined-in-Won-second-2 c = rw (c.in-Won.is, c.in-Won-second-2.is) (_, (refl, c.in_ok-joined-in-Won-second-2.ensures))
