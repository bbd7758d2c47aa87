use Rattle.std.proofs.Common.{subst}
use Rattle.std.specs.Arc.{arc_value}
use Rattle.tt_share.specs.Log.{ViewState, KeepsProof}
use Rattle.tt_share.proofs.log.log_store.LogStoreStore.keep.Goals as goal

pub returns-clause-proof : goal.returns-clause-proof
returns-clause-proof g c = λ is. subst (λ (v : ViewState). KeepsProof v c.keep.new.self (arc_value c.args.p)) c.self.view_is (c.keep.ensures.stored is)
