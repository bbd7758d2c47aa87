use Rattle.tt_proof.proofs.FootprintLemmas.{foot_done}
use Rattle.tt_proof.proofs.footprints.Footprint.empty.Goals as goal

pub returns : goal.returns
returns c = λ f s. foot_done f s _ c.new.ensures c.new-2.ensures
