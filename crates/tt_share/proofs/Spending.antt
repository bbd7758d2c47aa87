-- All of a total is spent where a search was refused.
use Rattle.std.proofs.Common.{◌≡◌, ℕ, zero, suc, ◌+◌, ◌-◌, ◌<◌, ◌≤◌, List, [], ◌∷◌, ◌++◌, Option, Some, None, All, Contains, Bool, true, slice_get, replicate}
use Rattle.std.proofs.Common.{MatchOption, length, map, reverse, sum_by, count_by, cond, leb, nat_eq}
use Rattle.std.proofs.Common.{inl, inr, true≢false, refl, sym, ap, subst, ◌∙◌, arith, zero-le}
use Rattle.std.proofs.lemmas.Bool.{cases_lt}
use Rattle.std.proofs.lemmas.Bool.Decides.{nat_tests}
use Rattle.std.proofs.lemmas.List.{get_or-reverse, length-reverse, reverse-append}
use Rattle.std.proofs.lemmas.List.Elements.{All-map, Contains-push}
use Rattle.std.proofs.lemmas.List.Sums.{sum_by_push, sum_by-cons}
use Rattle.std.proofs.lemmas.Option.{none-some, same_Some}
use mathlib.Core.Logic.{dite}
use native.Mathlib.Decide.{ℕ_discrete}
use Rattle.tt_game.specs.Line.{LineWithUndo}
use Rattle.tt_search.specs.Grants.{GrantTally}
use Rattle.tt_search.specs.declared.limits.Limits.{Limits}
use Rattle.tt_share.specs.declared.jobs.JobResult.{JobResult}
use Rattle.tt_share.specs.declared.desk.Closed.{Closed}
use Rattle.tt_share.specs.declared.jobs.SearchedJob.{SearchedJob}
use Rattle.tt_share.specs.declared.workers.HandedBack.{HandedBack}
use Rattle.tt_share.specs.Answers.{spent_in_all}
use Rattle.tt_share.specs.inside.Jobs.{IsForTotal, end_of}
use Rattle.tt_share.specs.inside.Results.{ResultsSoFar, HasTotal, KeepsTotal, SpendsTotal, AskedFor}
use Rattle.tt_share.specs.Seats.{DeskModel, SeatModel, EndsInOverdraw, EachNumberInOneSeat, AreGrantsOfTotal, AreDeskCounts, granted_among, last_number, occurrences_in_seats}
use Rattle.tt_share.specs.inside.Tallies.{IsGranted, Tallies}
use Rattle.tt_share.specs.inside.Workers.{times, spent_on, spent_by_all, held, held_in, AllApart, OnlyHandedBack, SomeTotal, IsWork}
use Rattle.tt_share.proofs.Apart.{none_times, held_most}
use Rattle.tt_share.proofs.Asked.{total_kept}
use Rattle.tt_share.proofs.LastWins.{read_more}
use Rattle.tt_share.proofs.Noting.{all_at, blank_none}

-- ---- lists

-- where each element weighs no more than it does otherwise, so do all
sum_most : {A : Type 0} (P : A → Type 0) (f g : A → ℕ) (xs : List A) → ((a : A) → P a → f a ≤ g a) → All P xs → sum_by f xs ≤ sum_by g xs
sum_most P f g [] each all = zero-le
sum_most P f g (x ∷ xs) each all =
    let one = each x (all 0 x (omega arith)) in
    let more = sum_most P f g xs each (λ k d short. all (suc k) d (omega (arith, short))) in
    omega (arith, one, more, sum_by-cons f x xs, sum_by-cons g x xs)

-- an element weighs no more than the list
weighs : {A : Type 0} (f : A → ℕ) (xs : List A) (i : ℕ) (x : A) → slice_get xs i ≡ Some x → f x ≤ sum_by f xs
weighs f [] i x is = absurd (none-some x is)
weighs f (y ∷ ys) zero x is = let e = ap f (same_Some y x is) in omega (arith, e, sum_by-cons f y ys)
weighs f (y ∷ ys) (suc i) x is = let e = weighs f ys i x is in omega (arith, e, sum_by-cons f y ys)

-- what weighs something has an element that does
some_weighs : {A : Type 0} (f : A → ℕ) (xs : List A) → 0 < sum_by f xs → (x : A) × Contains xs x × (0 < f x)
some_weighs f [] more = absurd (omega (arith, more))
some_weighs {A} f (y ∷ ys) more = dite (ℕ_discrete (f y) 0)
    (λ none.
    (let h = some_weighs f ys (omega (arith, more, none, sum_by-cons f y ys)) in
    let low = h.1.1 in
    (h.0, (suc h.1.0, omega (arith, low), h.1.2), h.2)))
    (λ some_here. (y, (0, omega arith, refl), omega (arith, some_here)))

-- one value again and again is read at each slot
blank_at : {X : Type 0} (x : X) (n i : ℕ) → i < n → slice_get (replicate n x) i ≡ Some x
blank_at x zero i low = absurd (omega (arith, low))
blank_at x (suc n) zero low = refl
blank_at x (suc n) (suc i) low = blank_at x n i (omega (arith, low))

-- weights of nothing add up to nothing
nothing : {A : Type 0} (xs : List A) → sum_by (λ (_ : A). 0) xs ≡ 0
nothing [] = refl
nothing {A} (x ∷ xs) = let e = nothing xs in omega (arith, e, sum_by-cons (λ (_ : A). 0) x xs)

-- the images of a list, the last first, weigh as much
reversed_weighs : {A B : Type 0} (f : A → B) (weight : B → ℕ) (xs : List A) → sum_by weight (reverse (map f xs)) ≡ sum_by (λ x. weight (f x)) xs
reversed_weighs f weight [] = refl
reversed_weighs f weight (x ∷ xs) =
    let e = ap (sum_by weight) (reverse-append (f x ∷ []) (map f xs)) in
    omega (arith, e, reversed_weighs f weight xs, sum_by_push weight (reverse (map f xs)) (f x), sum_by-cons (λ y. weight (f y)) x xs)

-- what holds of the images of all holds of them, the last first
all_reversed : {A B : Type 0} (P : B → Type 0) (f : A → B) (xs : List A) → All (λ x. P (f x)) xs → All P (reverse (map f xs))
all_reversed P f xs all k d low =
    let short : k < length (map f xs) = omega (arith, low, length-reverse (map f xs)) in
    subst P (sym (get_or-reverse (map f xs) k d short)) (All-map P f xs all (length (map f xs) - 1 - k) d (omega (arith, short)))

-- the seats that workers hand back are the desk's
pub seats_ours : (line : LineWithUndo) (limits : Limits) (desk : DeskModel) (work : List HandedBack) → All (IsWork line limits desk) work
    → All (λ (s : SeatModel). s.desk ≡ desk.id) (reverse (map (λ (b : HandedBack). b.seat) work))
seats_ours line limits desk work works = all_reversed (λ (s : SeatModel). s.desk ≡ desk.id) (λ (b : HandedBack). b.seat) work (λ k d low. (works k d low).seat)

-- ---- seats that were refused

-- 1 where the numbers end with one that is no grant
abbrev refusal : ℕ → SeatModel → ℕ
refusal total s = cond (leb total (last_number s.grants)) 1 0

refused_weighs : (total : ℕ) (s : SeatModel) → EndsInOverdraw total s.grants → refusal total s ≡ 1
refused_weighs total s e = grind (arith, nat_tests, e)

weighs_refused : (total : ℕ) (s : SeatModel) → 0 < refusal total s → EndsInOverdraw total s.grants
weighs_refused total s e = grind (arith, nat_tests, e)

-- a count that says that one was refused says so of a total
pub refused_total : (total : Option ℕ) (grants : List ℕ) (count : ℕ) (refused : Bool) → Tallies total grants count refused → refused ≡ true → (n : ℕ) × (total ≡ Some n) × EndsInOverdraw n grants
refused_total None grants count refused h up = absurd (true≢false (sym up ∙ h.0 refl))
refused_total (Some n) grants count refused h up = (n, refl, (h.1 n refl).1 up)

-- where one more result is stuck for the total, one was refused
pub refused_more : (found more : List SearchedJob) (f : SearchedJob) (before after : Bool) → more ≡ found ++ f ∷ [] → (IsForTotal (end_of f.end) → after ≡ true) → (before ≡ true → after ≡ true)
    → (SomeTotal found → before ≡ true) → SomeTotal more → after ≡ true
refused_more found more f before after is this still was (i, g, at, stuck) = elim (read_more found f i g (sym (ap (λ (l : List SearchedJob). slice_get l i) is) ∙ at)) [
  | inl h ↦ still (was (i, g, h, stuck))
  | inr h ↦ this (subst (λ (x : SearchedJob). IsForTotal (end_of x.end)) (sym h.1) stuck)
]

most_one : (list : SeatModel → List ℕ) (drawn : ℕ) (seats : List SeatModel) → EachNumberInOneSeat list drawn seats → (job : ℕ) → occurrences_in_seats list job seats ≤ 1
most_one list drawn seats once job = elim (cases_lt job drawn) [
  | inl h ↦ let e = once.below job h in omega (arith, e)
  | inr h ↦ let e = once.above job (omega arith) in omega (arith, e)
]

-- what one caller spends is what it was granted, and all of the total where some job is stuck for that
pub own_spent : (n : ℕ) (first last : ResultsSoFar) (before after : GrantTally) (total : Option ℕ) → first.ends ≡ replicate n None → spent_in_all first.spent ≡ 0
    → before.granted ≡ 0 → IsGranted total after.granted after.refused → AskedFor first before last after → KeepsTotal total last
own_spent n first last before after total blank unspent unasked granted h = record {
  within = λ m is. omega (arith, h.spent, (granted.1 m is).0, unspent, unasked);
  all = λ asked. elim (h.refused asked) [
    | inl was ↦ absurd (blank_none n was.0 was.1 (ap (λ (l : List (Option JobResult)). slice_get l was.0) (sym blank) ∙ was.2))
    | inr up ↦ spends total granted up
  ];
}
  where
    -- as many as the total
    spends : (o : Option ℕ) → IsGranted o after.granted after.refused → after.refused ≡ true → (m : ℕ) × (o ≡ Some m) × (spent_in_all last.spent ≡ m)
    spends None is up = absurd (true≢false (sym up ∙ is.0 refl))
    spends (Some m) is up = (m, refl, omega (arith, h.spent, (is.1 m refl).1 up, unspent, unasked))

-- ---- all workers and the caller

module _ (line : LineWithUndo) (limits : Limits) (desk : DeskModel) (closed : Closed) (work : List HandedBack) (seats : List SeatModel) (own : SeatModel)
    (works : All (IsWork line limits desk) work)
    (are : seats ≡ reverse (map (λ (b : HandedBack). b.seat) work)) (closes : AreDeskCounts desk (seats ++ own ∷ []) closed) where
  backs : (weight : SeatModel → ℕ) → sum_by weight seats ≡ sum_by (λ (b : HandedBack). weight b.seat) work
  backs weight = ap (sum_by weight) are ∙ reversed_weighs (λ (b : HandedBack). b.seat) weight work

  -- no job comes twice, as the desk gave out no number twice
  pub all_apart : (ends : List (Option JobResult)) → ends ≡ replicate desk.jobs None → AllApart ends work
  all_apart ends blank job = elim (cases_lt job desk.jobs) [
    | inl h ↦
        let weight = λ (s : SeatModel). count_by (λ n. nat_eq n job) s.numbers in
        let free : held ends job ≡ 0 = ap held_in (ap (λ (l : List (Option JobResult)). slice_get l job) blank ∙ blank_at None desk.jobs job h) in
        let drawn = sum_most (IsWork line limits desk) (λ (b : HandedBack). times job b.searched.items) (λ (b : HandedBack). weight b.seat) work (λ b w. w.drawn job) works in
        let once = most_one (λ s. s.numbers) closed.draws (seats ++ own ∷ []) closes.draws_each_once job in
        omega (arith, free, drawn, once, backs weight, sum_by_push weight seats own)
    | inr h ↦
        let past : desk.jobs ≤ job = omega arith in
        let none = sum_most (IsWork line limits desk) (λ (b : HandedBack). times job b.searched.items) (λ (b : HandedBack). 0) work
        (λ b w. let e = none_times job desk.jobs b.searched.items past w.jobs in omega (arith, e)) works in
        omega (arith, none, nothing work, held_most (slice_get ends job))
  ]

  -- what all searches expanded is what all seats were granted
  spent_granted : (total : ℕ) → desk.total ≡ Some total → spent_by_all work ≡ sum_by (λ (s : SeatModel). granted_among total s.grants) seats
  spent_granted total is =
      let weight = λ (s : SeatModel). granted_among total s.grants in
      let less = sum_most (IsWork line limits desk) (λ (b : HandedBack). spent_on b.searched.items) (λ (b : HandedBack). weight b.seat) work
      (λ b w. let e = w.spent total is in omega (arith, e)) works in
      let more = sum_most (IsWork line limits desk) (λ (b : HandedBack). weight b.seat) (λ (b : HandedBack). spent_on b.searched.items) work
      (λ b w. let e = w.spent total is in omega (arith, e)) works in
      omega (arith, less, more, backs weight)

  -- a worker's seat that was refused is among the seats
  refused_there : (i : ℕ) (b : HandedBack) (total : ℕ) → slice_get work i ≡ Some b → EndsInOverdraw total b.seat.grants
      → (s : SeatModel) × Contains (seats ++ own ∷ []) s × EndsInOverdraw total s.grants
  refused_there i b total at overdraw =
      let one = weighs (λ (c : HandedBack). refusal total c.seat) work i b at in
      let some_seat = some_weighs (refusal total) (seats ++ own ∷ [])
      (omega (arith, one, refused_weighs total b.seat overdraw, backs (refusal total), sum_by_push (refusal total) seats own)) in
      (some_seat.0, some_seat.1, weighs_refused total some_seat.0 some_seat.2)

  module _ (first mid last : ResultsSoFar) (before : GrantTally) (count : ℕ) (refused : Bool) (none : before.granted ≡ 0) (blank : first.ends ≡ replicate desk.jobs None)
      (unspent : spent_in_all first.spent ≡ 0)
      (gathered : AllApart first.ends work → spent_in_all mid.spent ≡ spent_in_all first.spent + spent_by_all work) (given : OnlyHandedBack first.ends mid.ends work)
      (asked : AskedFor mid before last (record { granted = count; refused = refused })) (tally : Tallies desk.total own.grants count refused) where
    -- some seat was refused where a job is stuck for the total
    some_refused : HasTotal last.ends → (total : ℕ) × (desk.total ≡ Some total) × ((s : SeatModel) × Contains (seats ++ own ∷ []) s × EndsInOverdraw total s.grants)
    some_refused h = elim (asked.refused h) [
      | inr up ↦ let t = refused_total desk.total own.grants count refused tally up in (t.0, t.1, (own, Contains-push seats own, t.2))
      | inl was ↦ elim (given was.0 was.1 was.2) [
        | inl had ↦ absurd (blank_none desk.jobs was.0 was.1 (sym (ap (λ (l : List (Option JobResult)). slice_get l was.0) blank) ∙ had))
        | inr g ↦
            let f = g.3.1 in
            let stuck : IsForTotal (end_of f.end) = total_kept g.3.2 f.end (subst (λ (x : JobResult). IsForTotal (end_of x)) g.3.6 was.3) in
            let w = all_at (IsWork line limits desk) work g.0 g.1 g.2 works in
            let t = w.refused (g.3.0, f, g.3.3, stuck) in
            (t.0, t.1, refused_there g.0 g.1 t.0 g.2 t.2)
      ]
    ]

    spends : (total : ℕ) → desk.total ≡ Some total → AreGrantsOfTotal total closed.granted (seats ++ own ∷ [])
    spends total is = subst (λ (o : Option ℕ). MatchOption o (closed.granted ≡ 0) (λ n. AreGrantsOfTotal n closed.granted (seats ++ own ∷ []))) is closes.granted

    -- what is spent is what was granted
    spent_is : (total : ℕ) → desk.total ≡ Some total → spent_in_all last.spent ≡ closed.granted
    spent_is total is =
        let granted = (spends total is).granted_is in
        let caller = (tally.1 total is).0 in
        let seats_and_own = sum_by_push (λ (s : SeatModel). granted_among total s.grants) seats own in
        omega (arith, none, granted, caller, seats_and_own, spent_granted total is, gathered (all_apart first.ends blank), unspent, asked.spent)

    -- no more than the total is spent, and all of it where some job is stuck for it
    pub total_spent : SpendsTotal desk.total closed.granted last
    total_spent = record {
      keeps = record {
        within = λ total is. let granted = (spends total is).asked.2 in grind (arith, spent_is total is, granted);
        all = λ h.
            let s = some_refused h in
            let all = (spends s.0 s.1).refused s.2.0 s.2.1 s.2.2 in
            (s.0, s.1, spent_is s.0 s.1 ∙ all);
      };
      granted_is = spent_is;
      none = λ is. subst (λ (o : Option ℕ). MatchOption o (closed.granted ≡ 0) (λ n. AreGrantsOfTotal n closed.granted (seats ++ own ∷ []))) is closes.granted;
    }
