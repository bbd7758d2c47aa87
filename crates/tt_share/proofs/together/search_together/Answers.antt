use Rattle.std.proofs.Common.{◌≡◌, ℕ, List, [], ◌∷◌, ◌++◌, Option, None, All, length, replicate, sym, ap, subst, ◌∙◌, arith}
use Rattle.std.proofs.lemmas.List.Elements.{All-push}
use Rattle.tt_game.specs.declared.turns.Turn.{Turn}
use Rattle.tt_game.specs.Turns.{legal_turns}
use Rattle.tt_share.specs.inside.Results.{ResultsSoFar, SpendsTotal}
use Rattle.tt_share.specs.Seats.{DeskModel, SeatModel, AreDeskCounts}
use Rattle.tt_share.specs.inside.Tallies.{Tallies}
use Rattle.tt_share.specs.inside.Workers.{AreSearched}
use Rattle.tt_share.proofs.Spending.{seats_ours, total_spent}
use Rattle.tt_share.proofs.together.search_together.Goals as goal

pub gather_results-seats-requires-clause-searched : goal.gather_results-seats-requires-clause-searched
gather_results-seats-requires-clause-searched g c =
    subst (λ (p : ResultsSoFar). All (AreSearched p.line p.limits) c.in_ok-work.work.items) c.results.view_is (λ k d low. (c.in_ok-work.ensures.work k d low).searched)

pub close-requires : goal.close-requires
close-requires g c =
    let grants = c.search_missing_until_win.new.grants in
    let desk : grants.desk.now ≡ c.in_ok-desk.desk = ap (λ (p : DeskModel × SeatModel). p.0) c.search_missing_until_win.ensures.source ∙ c.new-grants.ensures.desk in
    let own = ap (λ (s : SeatModel). s.desk) c.into_seat.ensures ∙ (grants.ours ∙ ap (λ (d : DeskModel). d.id) desk) in
    let jobs = c.results.inside.jobs in
    let ours = subst (All (λ (s : SeatModel). s.desk ≡ c.in_ok-desk.desk.id)) (sym c.gather_results-seats.ensures.seats)
    (seats_ours jobs.line.now jobs.limits c.in_ok-desk.desk c.in_ok-work.work.items c.in_ok-work.ensures.work) in
    subst (All (λ (s : SeatModel). s.desk ≡ c.in_ok-desk.desk.id)) (sym c.push_reserved.ensures.items)
    (All-push (λ (s : SeatModel). s.desk ≡ c.in_ok-desk.desk.id) c.gather_results-seats.result.items c.into_seat.result ours own)

pub returns-clause-spent : goal.returns-clause-spent
returns-clause-spent g c =
    let first = c.args.results.now in
    let mid = c.gather_results-seats.new.results in
    let last = c.search_missing_until_win.new.self in
    let desk = c.in_ok-desk.desk in
    let jobs = c.results.inside.jobs in
    let grants = c.search_missing_until_win.new.grants in
    let own = c.into_seat.result in
    let same : grants.desk.now ≡ desk = ap (λ (p : DeskModel × SeatModel). p.0) c.search_missing_until_win.ensures.source ∙ c.new-grants.ensures.desk in
    let turns = ap (λ (ts : List Turn). length ts) (jobs.listed ∙ ap (λ (p : ResultsSoFar). legal_turns p.line.frame p.line.state) c.results.view_is) in
    let jobs_are : length (legal_turns first.line.frame first.line.state) ≡ desk.jobs = omega (arith, turns, c.len-count.ensures.value, c.in_ok-desk.ensures.desk.0) in
    let blank : first.ends ≡ replicate desk.jobs None = c.requires.blank.none ∙ ap (λ (n : ℕ). replicate n None) jobs_are in
    let closes : AreDeskCounts desk (c.gather_results-seats.result.items ++ own ∷ []) c.in-Ok.closed =
    subst (λ (l : List SeatModel). AreDeskCounts desk l c.in-Ok.closed) c.push_reserved.ensures.items c.in-Ok.ensures in
    let tally : Tallies desk.total own.grants grants.granted grants.refused =
    subst (λ (s : SeatModel). Tallies desk.total s.grants grants.granted grants.refused) (sym c.into_seat.ensures)
    (subst (λ (d : DeskModel). Tallies d.total grants.seat.grants grants.granted grants.refused) same grants.tally) in
    subst (λ (o : Option ℕ). SpendsTotal o c.in-Ok.closed.granted last) c.in_ok-desk.ensures.desk.2
    (total_spent jobs.line.now jobs.limits desk c.in-Ok.closed c.in_ok-work.work.items c.gather_results-seats.result.items own c.in_ok-work.ensures.work c.gather_results-seats.ensures.seats closes
    first mid last _ grants.granted grants.refused c.new-grants.ensures.granted blank c.requires.blank.unspent c.gather_results-seats.ensures.spent c.gather_results-seats.ensures.given
    c.search_missing_until_win.ensures.asks tally)
