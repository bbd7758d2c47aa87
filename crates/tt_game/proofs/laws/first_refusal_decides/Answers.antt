use Rattle.tt_game.proofs.RecordLaws.{first_refusal_decides}
use Rattle.tt_game.proofs.laws.first_refusal_decides.Goals as goal

pub returns : goal.returns
returns c = first_refusal_decides
