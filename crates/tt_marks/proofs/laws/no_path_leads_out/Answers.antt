use Rattle.tt_marks.proofs.WallLemmas.{stays_within}
use Rattle.tt_marks.proofs.laws.no_path_leads_out.Goals as goal

pub returns : goal.returns
returns c = stays_within
