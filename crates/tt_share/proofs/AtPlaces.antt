-- What the workers hand back, read at their places.
use Rattle.std.proofs.Common.{◌≡◌, ℕ, zero, suc, ◌++◌, ◌<◌, List, [], ◌∷◌, All, Option, Some, None, length, map, get_or, slice_get, refl, sym, ap, subst, ◌∙◌, arith}
use Rattle.std.proofs.lemmas.List.{length-map, get_or-map}
use Rattle.std.specs.Option.{option_map}
use Rattle.std.proofs.lemmas.Option.{slice_get-map, slice_get-get_or, slice_get_within, get_or_from_slice_get, same_Some}
use Rattle.tt_game.specs.Line.{LineWithUndo}
use Rattle.tt_search.specs.declared.limits.Limits.{Limits}
use Rattle.tt_share.specs.Seats.{DeskModel, SeatModel}
use Rattle.tt_share.specs.declared.workers.HandedBack.{HandedBack}
use Rattle.tt_share.specs.declared.workers.WorkerPlace.{WorkerPlace}
use Rattle.tt_share.specs.inside.Workers.{AddsOverdraw, AllDrawn, AllWorkAtPlaces, HasBack, IsSeated, IsWork, jobs_of, place_of}

-- a seat stands at each place
pub all_seated : (desk : DeskModel) (seats : List SeatModel) → All (λ (s : SeatModel). (s.desk ≡ desk.id) × (s.grants ≡ [])) seats → All (IsSeated desk) (map place_of seats)
all_seated desk [] all k d low = absurd (omega (arith, low))
all_seated desk (s ∷ ss) all zero d low = let fresh = all 0 s (omega arith) in (s, refl, fresh.0, fresh.1)
all_seated desk (s ∷ ss) all (suc k) d low = all_seated desk ss (λ j e short. all (suc j) e (omega (arith, short))) k d (omega (arith, low))

module _ (line : LineWithUndo) (limits : Limits) (desk : DeskModel) (seats : List SeatModel) (before after : List WorkerPlace) (begun : before ≡ map place_of seats)
    (len : length after ≡ length before) (works : AllWorkAtPlaces line limits desk before after) where
  pub all_have_backs : All HasBack after
  all_have_backs k d low = let w = works k d (omega (arith, low, len)) in (w.back, w.left)

  module _ (work : List HandedBack) (taken : map Some work ≡ map (λ (p : WorkerPlace). p.back) after) where
    pub as_many : length work ≡ length seats
    as_many =
        let backs : length (map Some work) ≡ length work = length-map work Some in
        omega (arith, len, ap length taken, ap length begun, backs, length-map after (λ (p : WorkerPlace). p.back), length-map seats place_of)

    works_at : (k : ℕ) (back : HandedBack) (d : WorkerPlace) → k < length work → slice_get work k ≡ Some back → (get_or after k d).back ≡ Some back
    works_at k back d low is =
        let there = slice_get-get_or after k d (omega (arith, low, len, as_many, ap length begun, length-map seats place_of)) in
        same_Some _ _ (sym (ap (λ (o : Option WorkerPlace). option_map (λ (p : WorkerPlace). p.back) o) there) ∙ sym (slice_get-map (λ (p : WorkerPlace). p.back) after k)
        ∙ sym (ap (λ (l : List (Option HandedBack)). slice_get l k) taken) ∙ slice_get-map Some work k ∙ ap (λ (o : Option HandedBack). option_map Some o) is)

    -- a worker did its work with the seat that stood at its place, and what it left there was taken
    handed : (k : ℕ) (back : HandedBack) → slice_get work k ≡ Some back
        → IsWork line limits desk back × ((seat : SeatModel) → slice_get seats k ≡ Some seat → AddsOverdraw desk.jobs (seat.numbers ++ jobs_of back.searched.items) back.seat.numbers)
    handed k back is =
        let low = slice_get_within work k back is in
        let d : WorkerPlace = record { seat = None; back = None } in
        let w = works k d (omega (arith, low, as_many, ap length begun, length-map seats place_of)) in
        let same = same_Some _ _ (sym w.left ∙ works_at k back d low is) in (
          subst (IsWork line limits desk) same w.work,
          λ seat at. subst (λ (b : HandedBack). AddsOverdraw desk.jobs (seat.numbers ++ jobs_of b.searched.items) b.seat.numbers) same (w.drawn seat
              (ap (λ (p : WorkerPlace). p.seat) (ap (λ (l : List WorkerPlace). get_or l k d) begun ∙ get_or-map place_of seats k seat d (slice_get_within seats k seat at))
              ∙ ap (λ (s : SeatModel). Some s) (get_or_from_slice_get seats k seat seat at))),
        )

    pub all_work : All (IsWork line limits desk) work
    all_work k d low = (handed k (get_or work k d) (slice_get-get_or work k d low)).0

    pub all_drawn : AllDrawn desk.jobs seats work
    all_drawn i seat back at is = (handed i back is).1 seat at
