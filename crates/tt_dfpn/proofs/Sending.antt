-- What certifiers share may be read by several threads.
use denote.Ref.{NamedLft}
use denote.Param.Send.{IsSend, IsSync, sendable}
use denote.Param.SendFields.{declared_sync}
use Rattle.once_cell.proofs.race.once_box.OnceBox.TheSendSync.{the_send as once_send, the_sync as once_sync}
use Rattle.std.proofs.Crossing.{crosses}
use Rattle.tt_proof.proofs.Sent.{life_proof_send, life_proof_sync}
use Rattle.tt_dfpn.proofs.finder.workers.SharedSearch.TheSendSync.{the_sync as search_sync}
use Rattle.tt_dfpn.specs.contracts.shared_proofs.SharedProofs as SharedProofs
use Rattle.tt_dfpn.specs.contracts.shared_certification.SharedCertification as SharedCertification

shared_proofs_send : IsSend SharedProofs.the_row
shared_proofs_send = search (sendable, crosses, once_send, life_proof_send) depth 40

shared_proofs_sync : IsSync SharedProofs.the_row
shared_proofs_sync = search (sendable, crosses, once_sync, life_proof_send, life_proof_sync) depth 40

pub certification_sync : (c : NamedLft) → IsSync (SharedCertification.the_row c)
certification_sync c = declared_sync (SharedCertification.the_type c) (
  search (sendable, search_sync) depth 20,
  (
    search (sendable, crosses, shared_proofs_send, shared_proofs_sync) depth 20,
    (search (sendable, crosses) depth 20, (search (sendable, crosses) depth 20, (search (sendable, crosses) depth 20, tt))),
  ),
)
