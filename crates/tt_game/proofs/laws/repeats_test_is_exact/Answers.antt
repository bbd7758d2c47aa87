use Rattle.tt_game.proofs.RecordLaws.{repeats_test_is_exact}
use Rattle.tt_game.proofs.laws.repeats_test_is_exact.Goals as goal

pub returns : goal.returns
returns c = repeats_test_is_exact
