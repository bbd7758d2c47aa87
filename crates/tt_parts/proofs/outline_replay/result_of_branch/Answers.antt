use Rattle.std.proofs.Common.{refl}
use Rattle.tt_parts.proofs.outline_replay.result_of_branch.Goals as goal

pub returns-in_ok-basis-in-Won : goal.returns-in_ok-basis-in-Won
returns-in_ok-basis-in-Won c = rw c.in-Won.is (c.in_ok-basis-in-Won.basis, (refl, c.in_ok-basis-in-Won.ensures))
