use Rattle.tt_proof.specs.EndRules.{at_win_or_life}
use Rattle.tt_proof.proofs.FitsLemmas.{fitting_wins}
use Rattle.tt_proof.proofs.laws.fitting_trees_win_or_live.Goals as goal

pub returns : goal.returns
returns c = fitting_wins at_win_or_life
