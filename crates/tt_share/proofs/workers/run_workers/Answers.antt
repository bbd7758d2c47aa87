use Rattle.std.proofs.Common.{◌≡◌, List, All, length, map, ap, sym, subst, ◌∙◌, arith}
use Rattle.std.specs.Vec.{with_items}
use Rattle.std.proofs.lemmas.List.{length-map, with_items_is}
use Rattle.tt_share.specs.declared.workers.WorkerPlace.{WorkerPlace}
use Rattle.tt_share.specs.inside.Workers.{HasBack, IsSeated, place_of}
use Rattle.tt_share.proofs.AtPlaces.{all_seated, all_have_backs, as_many, all_work, all_drawn}
use Rattle.tt_share.proofs.workers.run_workers.Goals as goal

pub work_at_places-requires-clause-seats : goal.work_at_places-requires-clause-seats
work_at_places-requires-clause-seats g c κs within =
    let begun = c.as_mut_slice.ensures.value ∙ c.in_ok-places.ensures in
    subst (All (IsSeated c.args.desk.now)) (sym begun) (all_seated c.args.desk.now c.args.seats.items c.requires.seats)

pub backs_of-requires-clause-places : goal.backs_of-requires-clause-places
backs_of-requires-clause-places g c =
    let before = c.as_mut_slice.result.now in
    let after : List WorkerPlace = c.work_at_places.new.places in
    let begun = c.as_mut_slice.ensures.value ∙ c.in_ok-places.ensures in
    let len : length after ≡ length before = c.work_at_places.auto.places in
    let written : (with_items c.in_ok-places.places after).items ≡ after = with_items_is c.in_ok-places.places after (len ∙ c.as_mut_slice.ensures.len) in
    subst (All HasBack) (sym written) (all_have_backs c.args.jobs.now.line.now c.args.jobs.now.limits c.args.desk.now c.args.seats.items before after begun len c.work_at_places.ensures)

pub backs_of-requires-clause-room : goal.backs_of-requires-clause-room
backs_of-requires-clause-room g c =
    let made = ap length c.in_ok-places.ensures in (
      c.in_ok-work.ensures.items,
      omega (arith, made, length-map c.args.seats.items place_of, c.in_ok-places.places.ok.0, c.args.seats.ok.0, c.in_ok-work.ensures.capacity, c.len.ensures),
    )

pub returns-clause-work : goal.returns-clause-work
returns-clause-work g c =
    let before = c.as_mut_slice.result.now in
    let after : List WorkerPlace = c.work_at_places.new.places in
    let begun = c.as_mut_slice.ensures.value ∙ c.in_ok-places.ensures in
    let len : length after ≡ length before = c.work_at_places.auto.places in
    let written : (with_items c.in_ok-places.places after).items ≡ after = with_items_is c.in_ok-places.places after (len ∙ c.as_mut_slice.ensures.len) in
    all_work c.args.jobs.now.line.now c.args.jobs.now.limits c.args.desk.now c.args.seats.items before after begun len c.work_at_places.ensures
    c.backs_of.result.items (c.backs_of.ensures ∙ ap (map (λ (p : WorkerPlace). p.back)) written)

pub returns-clause-drawn : goal.returns-clause-drawn
returns-clause-drawn g c =
    let before = c.as_mut_slice.result.now in
    let after : List WorkerPlace = c.work_at_places.new.places in
    let begun = c.as_mut_slice.ensures.value ∙ c.in_ok-places.ensures in
    let len : length after ≡ length before = c.work_at_places.auto.places in
    let written : (with_items c.in_ok-places.places after).items ≡ after = with_items_is c.in_ok-places.places after (len ∙ c.as_mut_slice.ensures.len) in
    all_drawn c.args.jobs.now.line.now c.args.jobs.now.limits c.args.desk.now c.args.seats.items before after begun len c.work_at_places.ensures
    c.backs_of.result.items (c.backs_of.ensures ∙ ap (map (λ (p : WorkerPlace). p.back)) written)

pub returns-clause-len : goal.returns-clause-len
returns-clause-len g c =
    let before = c.as_mut_slice.result.now in
    let after : List WorkerPlace = c.work_at_places.new.places in
    let begun = c.as_mut_slice.ensures.value ∙ c.in_ok-places.ensures in
    let len : length after ≡ length before = c.work_at_places.auto.places in
    let written : (with_items c.in_ok-places.places after).items ≡ after = with_items_is c.in_ok-places.places after (len ∙ c.as_mut_slice.ensures.len) in
    let many = as_many c.args.jobs.now.line.now c.args.jobs.now.limits c.args.desk.now c.args.seats.items before after begun len c.work_at_places.ensures
    c.backs_of.result.items (c.backs_of.ensures ∙ ap (map (λ (p : WorkerPlace). p.back)) written) in
    omega (arith, many, c.backs_of.result.ok.0, c.args.seats.ok.0)
