use Rattle.tt_game.proofs.OneSide.{not_both}
use Rattle.tt_game.proofs.laws.l2.Goals as goal

pub returns : goal.returns
returns c = λ f s m n a d. not_both m n f s a d
