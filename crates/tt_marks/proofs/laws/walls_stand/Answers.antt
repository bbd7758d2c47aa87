use Rattle.tt_marks.proofs.StandLemmas.{wall_stands}
use Rattle.tt_marks.proofs.laws.walls_stand.Goals as goal

pub returns : goal.returns
returns c = wall_stands
