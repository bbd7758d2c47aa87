use Rattle.tt_marks.proofs.RegionLemmas.{outside_stands}
use Rattle.tt_marks.proofs.laws.stones_outside_stand.Goals as goal

pub returns : goal.returns
returns c = outside_stands
