use Rattle.tt_game.specs.laws.KeyLaws.{same_key_implies_equal, equal_implies_same_key}
use Rattle.tt_share.proofs.laws.key_equality_is_exact.Goals as goal

pub returns : goal.returns
returns c a b = (same_key_implies_equal a b, equal_implies_same_key a b)
