use Rattle.tt_game.proofs.RecordLaws.{setups_begin}
use Rattle.tt_game.proofs.laws.setups_begin_histories.Goals as goal

pub returns : goal.returns
returns c = setups_begin
