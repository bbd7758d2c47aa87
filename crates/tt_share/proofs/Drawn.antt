-- Numbers that a seat drew.
use Rattle.std.proofs.Common.{◌≡◌, ℕ, Bool, List, [], ◌∷◌, ◌++◌, sym, ap, ◌∙◌, append_assoc}
use Rattle.std.proofs.lemmas.List.{map-append}
use Rattle.atomic_table.specs.Seated.{TableId}
use Rattle.tt_share.specs.Seats.{SeatModel, seat_of}
use Rattle.tt_share.specs.inside.Workers.{AddsOverdraw, jobs_of}
use Rattle.tt_share.specs.declared.jobs.SearchedJob.{SearchedJob}

-- one more result of a job that was drawn
pub drawn_more : (first old drawn new : List ℕ) (found more : List SearchedJob) (f : SearchedJob) → old ≡ first ++ jobs_of found → drawn ≡ old ++ f.job ∷ [] → new ≡ drawn
    → more ≡ found ++ f ∷ [] → new ≡ first ++ jobs_of more
drawn_more first old drawn new found more f was is same all =
    let jobs : jobs_of more ≡ jobs_of found ++ f.job ∷ [] = ap jobs_of all ∙ map-append (λ (g : SearchedJob). g.job) found (f ∷ []) in
    same ∙ (is ∙ (ap (λ ns. ns ++ f.job ∷ []) was ∙ (append_assoc first (jobs_of found) (f.job ∷ []) ∙ ap (λ ns. first ++ ns) (sym jobs))))

-- and at the end numbers that are no jobs
pub drawn_all : (jobs : ℕ) (first old new : List ℕ) (found more : List SearchedJob) → old ≡ first ++ jobs_of found
    → more ≡ found → AddsOverdraw jobs old new → AddsOverdraw jobs (first ++ jobs_of more) new
drawn_all jobs first old new found more was same overdraw = (overdraw.0, overdraw.1 ∙ ap (λ ns. ns ++ overdraw.0) (was ∙ ap (λ fs. first ++ jobs_of fs) (sym same)), overdraw.2)

pub numbers_of : (s : SeatModel) (desk : TableId) (numbers grants : List ℕ) (flag saw_flag : Bool) → s ≡ seat_of desk numbers grants flag saw_flag → s.numbers ≡ numbers
numbers_of s desk numbers grants flag saw_flag is = ap (λ (t : SeatModel). t.numbers) is
