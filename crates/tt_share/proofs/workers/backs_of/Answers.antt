use Rattle.std.proofs.Common.{◌≡◌, List, ◌++◌, Some, length, slice_get, sym, ap, ◌∙◌}
use Rattle.tt_share.specs.declared.workers.WorkerPlace.{WorkerPlace}
use Rattle.tt_share.specs.inside.Workers.{HasBack}
use Rattle.tt_share.proofs.Noting.{all_at}
use Rattle.tt_share.proofs.Placing.{there_at}
use Rattle.tt_share.proofs.workers.backs_of.Goals as goal

pub unreachable-requires : goal.unreachable-requires
unreachable-requires c =
    let done = c.loop-place.yielded in
    let place = c.in-Some.place in
    let all = sym c.loop-place.invariant.order ∙ ap (λ (l : List WorkerPlace). done ++ l) c.in-Some.ensures.steps.0 in
    let there : slice_get c.args.places.items (length done) ≡ Some place = ap (λ (l : List WorkerPlace). slice_get l (length done)) all ∙ there_at done _ place in
    let back = all_at HasBack c.args.places.items (length done) place there c.requires.places in
    c.in_default.not-Some back.0 back.1
