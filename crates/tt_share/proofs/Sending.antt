-- What workers hand back, and what they share, may cross threads.
use denote.RattleType.{RattleType}
use mathlib.Core.List.{[], ◌∷◌}
use mir.Syntax.{Sym}
use denote.Param.{param}
use denote.Ref.{NamedLft}
use denote.Struct.Field.{shr_ref_field}
use denote.Struct.Tuple.{TupleAt, type_at}
use denote.Param.Send.{IsSend, IsSync, view_sync, sendable}
use denote.Param.SendFields.{as_row_send, as_row_sync, declared_send, declared_sync}
use Rattle.std.proofs.Crossing.{crosses}
use Rattle.std.specs.contracts.alloc.Global as Global
use Rattle.std.specs.contracts.impls.GlobalAllocator.TheImpl.{ghosts}
use Rattle.std.specs.contracts.sync.Arc as Arc
use Rattle.atomic_table.specs.contracts.shared.Seat as TableSeat
use Rattle.atomic_table.proofs.Sent.{seat_keyless}
use Rattle.tt_proof.specs.contracts.proven.Proof as Proof
use Rattle.tt_proof.proofs.Sent.{proof_send, shared_send, shared_sync}
use Rattle.tt_search.proofs.Sent.{search_send}
use Rattle.boxcar.specs.contracts.vec.Anything as Anything
use Rattle.boxcar.specs.contracts.vec.AnythingKeeps.TheImpl as any
use Rattle.boxcar.specs.contracts.tag.Tag as Tag
use Rattle.tt_share.specs.contracts.desk.Desk as Desk
use Rattle.tt_share.specs.contracts.desk.Seat as Seat
use Rattle.tt_share.proofs.desk.Desk.TheSendSync.{the_sync as desk_sync}
use Rattle.tt_share.proofs.jobs.Jobs.TheSendSync.{the_sync as jobs_sync}
use Rattle.tt_share.specs.contracts.log.CertLog as CertLog
use Rattle.tt_share.specs.contracts.log.CertLog.TheInside as LogInside
use Rattle.boxcar.specs.contracts.vec.Vec as Entries
use Rattle.boxcar.specs.contracts.vec.Vec.TheInside as EntriesInside
use Rattle.boxcar.specs.contracts.table.Table as Boxes
use Rattle.boxcar.specs.contracts.table.Table.TheInside as BoxesInside
use Rattle.boxcar.proofs.Sent.{tag_sync, slot_send, slot_sync}
use Rattle.tt_share.specs.contracts.jobs.Jobs as Jobs
use Rattle.tt_share.specs.contracts.jobs.JobResult as JobResult
use Rattle.tt_share.specs.contracts.jobs.SearchedJob as SearchedJob
use Rattle.tt_share.specs.contracts.workers.HandedBack as HandedBack
use Rattle.tt_share.specs.contracts.workers.WorkerPlace as WorkerPlace

-- a stuck search crosses threads in its box
job_result_send : IsSend JobResult.the_row
job_result_send = search (sendable, crosses, proof_send, search_send) depth 40

searched_job_send : IsSend SearchedJob.the_row
searched_job_send = declared_send SearchedJob.the_type (
  search (sendable, crosses) depth 20,
  (search (sendable, crosses, job_result_send, as_row_send) depth 40, (search (sendable, crosses) depth 20, tt)),
)

-- a seat of a table crosses threads where what it holds does
table_seat_send : (S V : RattleType) → IsSend S → IsSend (TableSeat.the_row S V)
table_seat_send S V s = record { owned = λ d vs. ((λ vss. (tt, ((λ uss. (tt, tt)), tt))), seat_keyless S s V.coded.code d.table_id d.id d.me); leaving = λ k f vs. tt }

seat_send : IsSend Seat.the_row
seat_send = search (sendable, crosses, table_seat_send) depth 40

handed_back_send : IsSend HandedBack.the_row
handed_back_send = search (sendable, crosses, searched_job_send, seat_send) depth 40

pub place_send : IsSend WorkerPlace.the_row
place_send = search (sendable, crosses, handed_back_send, seat_send) depth 40

abbrev pub Handle : RattleType
Handle = Arc.the_row Proof.the_row Global.the_row ghosts

-- a log is a row of buckets, each a row of slots, between two counters
table_sync : IsSync (Boxes.the_row Handle Anything.the_row Global.the_row (any.ghosts Handle) ghosts)
table_sync = view_sync _ _ _ _ _ (declared_sync (BoxesInside.the_type Handle Anything.the_row Global.the_row (any.ghosts Handle) ghosts)
    (search (sendable, crosses, slot_send, slot_sync, shared_send, shared_sync) depth 40, (search (sendable, crosses) depth 20, (as_row_sync Tag.the_field tag_sync, tt))))

entries_sync : IsSync (Entries.the_row Handle Global.the_row Anything.the_row ghosts (any.ghosts Handle))
entries_sync = view_sync _ _ _ _ _ (declared_sync (EntriesInside.the_type Handle Global.the_row Anything.the_row ghosts (any.ghosts Handle)) (
  search (sendable, crosses) depth 20,
  (as_row_sync (Boxes.the_field Handle Anything.the_row Global.the_row (any.ghosts Handle) ghosts) table_sync, (search (sendable, crosses) depth 20, tt)),
))

pub log_sync : IsSync CertLog.the_row
log_sync = view_sync _ _ _ _ _ (declared_sync LogInside.the_type (as_row_sync (Entries.the_field Handle Global.the_row Anything.the_row ghosts (any.ghosts Handle)) entries_sync, tt))

-- the closure that each worker runs holds a handle of the system, the jobs, the desk, the log and the gate, all shared
pub worker_sync : (ν : Sym) (R G : RattleType) (a b c d e f : NamedLft) → IsSync R → IsSync G
    → IsSync (TupleAt ν ((shr_ref_field a (param 0 R) tt).row ∷ (shr_ref_field b (Jobs.the_row c) tt).row ∷ (shr_ref_field d Desk.the_row tt).row
    ∷ (shr_ref_field e CertLog.the_row tt).row ∷ (shr_ref_field f (param 1 G) tt).row ∷ []))
worker_sync ν R G a b c d e f r g = declared_sync (type_at ν ((shr_ref_field a (param 0 R) tt).row ∷ (shr_ref_field b (Jobs.the_row c) tt).row
    ∷ (shr_ref_field d Desk.the_row tt).row ∷ (shr_ref_field e CertLog.the_row tt).row ∷ (shr_ref_field f (param 1 G) tt).row ∷ [])) (
      search sendable depth 20,
      (search (sendable, jobs_sync) depth 20, (search (sendable, desk_sync) depth 20, (search (sendable, log_sync) depth 20, (search sendable depth 20, tt)))),
    )
