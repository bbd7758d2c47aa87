use Rattle.tt_marks.proofs.RegionLemmas.{liberty_inside}
use Rattle.tt_marks.proofs.laws.liberties_are_in_the_region.Goals as goal

pub returns : goal.returns
returns c = liberty_inside
