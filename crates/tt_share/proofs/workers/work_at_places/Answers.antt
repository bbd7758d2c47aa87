use denote.Exit.{no}
use denote.Param.Send.{arg_sync, param_sync, sendable}
use Rattle.std.proofs.Common.{get_or, sym, subst}
use Rattle.tt_share.specs.inside.Workers.{IsSeated, WorksAtPlace}
use Rattle.tt_share.specs.declared.workers.WorkerPlace.{WorkerPlace}
use Rattle.tt_share.proofs.Sending.{place_send, worker_sync}
use Rattle.tt_share.proofs.workers.work_at_places.Goals as goal

pub for_each_mut-requires-send-T : goal.for_each_mut-requires-send-T
for_each_mut-requires-send-T g c κs within = search (sendable, place_send)

pub for_each_mut-requires-sync-F : goal.for_each_mut-requires-sync-F
for_each_mut-requires-sync-F g c κs within = param_sync 2 _ (arg_sync _ no _ (worker_sync _ _ _ _ _ _ _ _ _ c.type_bounds.sync-R c.type_bounds.sync-G))

pub for_each_mut-requires-clause-accepts : goal.for_each_mut-requires-clause-accepts
for_each_mut-requires-clause-accepts g c κs within i p low is = (
  (c.requires.jobs, subst (IsSeated c.args.desk.now) (sym is) (c.requires.seats i p.now low)),
  (
    param_sync 0 _ (arg_sync _ no _ c.type_bounds.sync-R),
    param_sync 1 _
        (arg_sync _ no _ c.type_bounds.sync-G),
  ),
)

pub returns : goal.returns
returns g c i d low =
    let works = WorksAtPlace c.args.jobs.now.line.now c.args.jobs.now.limits c.args.desk.now in
    let h = (c.for_each_mut.ensures i d low).1 in
    subst (λ (p : WorkerPlace). works p (get_or c.for_each_mut.new.s i d)) h.argument_is (subst (works h.argument.now) h.left h.call)
