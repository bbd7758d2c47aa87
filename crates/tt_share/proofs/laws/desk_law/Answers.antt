use Rattle.tt_share.proofs.PlainDesk as proofs
use Rattle.tt_share.proofs.laws.desk_law.Goals as goal

pub returns : goal.returns
returns c = proofs.desk_law
