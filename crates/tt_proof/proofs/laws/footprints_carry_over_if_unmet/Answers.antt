use Rattle.tt_proof.specs.EndRules.{at_win}
use Rattle.tt_proof.proofs.CarryLemmas.{footprint_carried}
use Rattle.tt_proof.proofs.laws.footprints_carry_over_if_unmet.Goals as goal

pub returns : goal.returns
returns c = footprint_carried at_win
