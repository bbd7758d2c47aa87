use Rattle.tt_board.specs.Decided.{reaches_is_exact}
use Rattle.tt_board.proofs.laws.reaches_test_is_exact.Goals as goal

pub returns : goal.returns
returns c = λ s xs p e in_p. reaches_is_exact s xs p e in_p
