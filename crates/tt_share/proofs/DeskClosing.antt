-- What a desk shows once one seat stands for all.
use Rattle.std.proofs.Common.{◌≡◌, ℕ, zero, suc, ◌+◌, ◌-◌, ◌<◌, ◌≤◌, Bool, true, false, ◌||◌, List, [], ◌∷◌, length, set, sum_by, All, Contains, cond, leb, ltb, min, nat_eq, refl, sym, ap}
use Rattle.std.proofs.Common.{◌∙◌, zero-add, subst, arith, Option, Some, None, MatchOption, IsTrue}
use Rattle.std.specs.List.{list_any}
use Rattle.std.proofs.lemmas.Bool.Decides.{nat_tests}
use Rattle.std.proofs.lemmas.List.Sums.{sum_by-cons, sum_by-append, get_or-le-sum_by}
use Rattle.std.proofs.lemmas.List.Elements.{All-contains}
use mathlib.Core.Option.{some}
use mathlib.Core.Logic.{dite}
use native.Mathlib.Decide.{dec_lt}
use lib.ListN.{get_elem?}
use Rattle.tt_share.specs.declared.desk.rule.SeatKnowledge.{SeatKnowledge}
use Rattle.tt_share.specs.declared.desk.rule.DeskSize.{DeskSize}
use Rattle.tt_share.specs.Desk.{knowledge_of, no_knowledge, joined_knowledge, sum_below, overdraw_count, EachSeat, IsDesk}
use Rattle.tt_share.specs.Seats.{DeskModel, SeatModel, EachNumberInOneSeat, OverdrawMeansAllDrawn, EndsInOverdraw, AreGrantsOfTotal}
use Rattle.tt_share.specs.inside.Gathering.{Gathers}
use Rattle.tt_share.proofs.DeskLists.{at_within, at_read, sum_set, sum_at, sum_le}
use Rattle.tt_share.proofs.DeskMoves.{counts_room, each_set, right_true}

-- where one seat stands for all, what the others add up to is nothing
alone : (f : SeatKnowledge → ℕ) (knowledge : List SeatKnowledge) (id : ℕ) (v : SeatKnowledge) → get_elem? knowledge id ≡ some v → sum_by (λ u. u.seat_count) knowledge ≡ v.seat_count
    → f no_knowledge ≡ 0 → EachSeat (λ u. u.seat_count ≡ 0 → u ≡ no_knowledge) knowledge
    → sum_by f knowledge ≡ f v
alone f knowledge id v at all nothing spent =
    let s = sum_set f knowledge id v no_knowledge at in
    let p = sum_set (λ u. u.seat_count) knowledge id v no_knowledge at in
    let rest : List SeatKnowledge = set knowledge id no_knowledge in
    let none_left : EachSeat (λ u. u.seat_count ≡ 0) rest = λ i u e. let b = sum_at (λ w. w.seat_count) rest i u e in omega arith in
    let spent_too : EachSeat (λ u. u.seat_count ≡ 0 → u ≡ no_knowledge) rest = each_set (λ u. u.seat_count ≡ 0 → u ≡ no_knowledge) knowledge id no_knowledge (λ _. refl) spent in
    let small = sum_le f (λ u. u.seat_count) rest (λ i u e. let z : f u ≡ 0 = ap f (spent_too i u e (none_left i u e)) ∙ nothing in omega arith) in
    omega arith

or_nothing : (b : Bool) → (b || false) ≡ b
or_nothing true = refl
or_nothing false = refl

or_swap : (a b c : Bool) → c ≡ b → (a || c) ≡ (b || a)
or_swap true true c e = refl
or_swap true false c e = refl
or_swap false true c e = e
or_swap false false c e = e

-- what the table's seat of a seat knows
abbrev pub sat_as : SeatModel → SeatKnowledge
sat_as s = knowledge_of 1 s.numbers s.grants s.flag s.saw_flag

-- what one seat knows gathers that seat
pub gathers_first : (s : SeatModel) → Gathers (s ∷ []) (sat_as s)
gathers_first s = record {
  seat_count = refl;
  numbers = λ weight. zero-add (sum_by weight s.numbers);
  grants = λ weight. zero-add (sum_by weight s.grants);
  marks = or_nothing s.flag;
  saw_flag = or_nothing s.saw_flag;
}

-- joined with what one more seat knows, it gathers that seat too
pub gathers_more : (s : SeatModel) (taken : List SeatModel) (v : SeatKnowledge) → Gathers taken v → Gathers (s ∷ taken) (joined_knowledge v (sat_as s))
gathers_more s taken v h = record {
  seat_count = let p = h.seat_count in omega arith;
  numbers = λ weight.
      let was = h.numbers weight in
      let c = sum_by-cons (λ (t : SeatModel). sum_by weight t.numbers) s taken in
      let a = sum_by-append weight v.numbers s.numbers in
      omega arith;
  grants = λ weight.
      let was = h.grants weight in
      let c = sum_by-cons (λ (t : SeatModel). sum_by weight t.grants) s taken in
      let a = sum_by-append weight v.grants s.grants in
      omega arith;
  marks = or_swap s.flag v.flag (list_any (λ t. t.flag) taken) h.marks;
  saw_flag = or_swap s.saw_flag v.saw_flag (list_any (λ t. t.saw_flag) taken) h.saw_flag;
}

-- where each number weighs 1, those below n weigh n
pub ones_below : (n : ℕ) → sum_below (λ _. 1) n ≡ n
ones_below zero = refl
ones_below (suc n) = let e = ones_below n in omega arith

-- where each element weighs 1, a list weighs its length
pub ones : {A : Type 0} (l : List A) → sum_by (λ _. 1) l ≡ length l
ones [] = refl
ones {A} (x ∷ xs) = let e = ones xs in let c = sum_by-cons (λ (_ : A). 1) x xs in omega arith

-- sums of equal terms are equal
pub sum_same : {A : Type 0} (f g : A → ℕ) (l : List A) → ((a : A) → f a ≡ g a) → sum_by f l ≡ sum_by g l
sum_same f g [] same = refl
sum_same f g (x ∷ xs) same = let e = sum_same f g xs same in let one = same x in omega (arith, sum_by-cons f x xs, sum_by-cons g x xs)

-- no number below m is n, where n is m or more
pub never_below : (n m : ℕ) → m ≤ n → sum_below (λ k. cond (nat_eq k n) 1 0) m ≡ 0
never_below n zero h = refl
never_below n (suc m) h = let e = never_below n m (omega arith) in grind (arith, nat_tests)

-- one number below m is n, where n is less
pub once_below : (n m : ℕ) → n < m → sum_below (λ k. cond (nat_eq k n) 1 0) m ≡ 1
once_below n zero h = absurd (omega arith)
once_below n (suc m) h =
    dite (dec_lt n m) (λ lt. let e = once_below n m lt in grind (arith, nat_tests)) (λ ge. let e = never_below n m (omega arith) in grind (arith, nat_tests))

-- as many numbers below n are overdraw as n is above the jobs
spares_exact : (jobs n : ℕ) → sum_below (λ k. cond (leb jobs k) 1 0) n ≡ n - jobs
spares_exact jobs zero = omega arith
spares_exact jobs (suc n) = let e = spares_exact jobs n in grind (arith, nat_tests)

-- a list that ends with a overdraw number has one at least
ends_overdraw : (jobs : ℕ) (xs : List ℕ) → 0 < jobs → EndsInOverdraw jobs xs → 1 ≤ overdraw_count jobs xs
ends_overdraw jobs [] job h = absurd (omega arith)
ends_overdraw jobs (x ∷ xs) job h =
    let b = get_or-le-sum_by (λ k. cond (leb jobs k) 1 0) (x ∷ xs) (length (x ∷ xs) - 1) 0 (omega arith) in grind (arith, nat_tests)

-- a truth value that weighs 1 is true
is_set : (b : Bool) → 1 ≤ cond b 1 0 → b ≡ true
is_set true h = refl
is_set false h = absurd (omega arith)

-- of the numbers below n, as many are below the limit as the lesser of both
least_below : (limit n : ℕ) → sum_below (λ k. cond (ltb k limit) 1 0) n ≡ min n limit
least_below limit zero = omega arith
least_below limit (suc n) = let e = least_below limit n in grind (arith, nat_tests)

-- what the lists of all seats show, where however numbers are weighed they weigh as those below the count
module _ (list : SeatModel → List ℕ) (count : ℕ) (seats : List SeatModel) (weights : (weight : ℕ → ℕ) → sum_by (λ (s : SeatModel). sum_by weight (list s)) seats ≡ sum_below weight count) where
  -- the numbers in the lists are those below the count, each once
  each_once : EachNumberInOneSeat list count seats
  each_once = record {
    count_is = sum_same (λ s. length (list s)) (λ s. sum_by (λ _. 1) (list s)) seats (λ s. sym (ones (list s))) ∙ (weights (λ _. 1) ∙ ones_below count);
    below = λ n lt. weights (λ k. cond (nat_eq k n) 1 0) ∙ once_below n count lt;
    above = λ n le. weights (λ k. cond (nat_eq k n) 1 0) ∙ never_below n count le;
  }

  -- as many of them are overdraw as the count is above the limit
  spares : (limit : ℕ) → sum_by (λ s. overdraw_count limit (list s)) seats ≡ count - limit
  spares limit = weights (λ k. cond (leb limit k) 1 0) ∙ spares_exact limit count

  -- where some list ends with a number that is not below the limit, the count is above it
  beyond : (limit : ℕ) → 0 < limit → (s : SeatModel) → Contains seats s → EndsInOverdraw limit (list s) → limit < count
  beyond limit positive s has ends =
      let overdraw : SeatModel → ℕ = λ t. overdraw_count limit (list t) in
      let one : overdraw s ≤ sum_by overdraw seats = All-contains (λ t. overdraw t ≤ sum_by overdraw seats) seats s (λ k d within. get_or-le-sum_by overdraw seats k d within) has in
      let mine : 1 ≤ overdraw s = ends_overdraw limit (list s) positive ends in
      let all = spares limit in
      omega arith

  -- and each number below the limit was drawn, once
  uses : (limit : ℕ) → 0 < limit → OverdrawMeansAllDrawn list limit seats
  uses limit positive s has ends number lt = each_once.below number (let b = beyond limit positive s has ends in omega arith)

  -- where each list ends with a overdraw number, the count is at least the limit and the number of seats, added up
  all_overdraw : (limit : ℕ) → 0 < limit → 0 < length seats → All (λ (s : SeatModel). EndsInOverdraw limit (list s)) seats → limit + length seats ≤ count
  all_overdraw limit positive some_seat all =
      let least = sum_le (λ _. 1) (λ s. overdraw_count limit (list s)) seats
      (λ i s e. ends_overdraw limit (list s) positive (subst (λ (t : SeatModel). EndsInOverdraw limit (list t)) (at_read seats i s s e) (all i s (at_within seats i s e)))) in
      let number = ones seats in
      let exact = spares limit in
      omega arith

-- what the seats show of the grants of a total
spends : (total word : ℕ) (seats : List SeatModel) → ((weight : ℕ → ℕ) → sum_by (λ (s : SeatModel). sum_by weight s.grants) seats ≡ sum_below weight word)
    → AreGrantsOfTotal total (min word total) seats
spends total word seats weights = record {
  asked = (word, each_once (λ s. s.grants) word seats weights, refl);
  granted_is = sym (weights (λ k. cond (ltb k total) 1 0) ∙ least_below total word);
  refused = λ s has ends. dite (dec_lt 0 total)
      (λ positive. let b = beyond (λ t. t.grants) word seats weights total positive s has ends in omega arith)
      (λ none. omega arith);
}

-- what seats of a closed desk show, where its words are known
pub record End (desk : DeskModel) (seats : List SeatModel) (drawn asked : ℕ) : Type 0 where
  pub draws : EachNumberInOneSeat (λ s. s.numbers) drawn seats
  pub jobs_drawn : OverdrawMeansAllDrawn (λ s. s.numbers) desk.jobs seats
  pub draws_most : drawn ≤ desk.jobs + desk.seats
  pub draws_are : All (λ s. EndsInOverdraw desk.jobs s.numbers) seats → drawn ≡ desk.jobs + desk.seats
  pub sighted : IsTrue (list_any (λ s. s.saw_flag) seats) → IsTrue (list_any (λ s. s.flag) seats)
  pub grants : (total : ℕ) → AreGrantsOfTotal total (min asked total) seats

-- where one gathers all seats and stands for all, they show what seats of a closed desk show
pub closes : (desk : DeskModel) (plan : DeskSize) (drawn flag asked : ℕ) (knowledge : List SeatKnowledge) (id : ℕ) (v : SeatKnowledge) (seats : List SeatModel)
    → plan.jobs ≡ desk.jobs → plan.seats ≡ desk.seats
    → length seats ≡ desk.seats
    → 0 < desk.jobs → 0 < desk.seats → Gathers seats v → IsDesk plan drawn flag asked knowledge → get_elem? knowledge id ≡ some v → End desk seats drawn asked
closes desk plan drawn flag asked knowledge id v seats same_jobs same_seats len some_job some_seat g h at =
    let all_parts : sum_by (λ u. u.seat_count) knowledge ≡ v.seat_count = let p = h.seat_count in let q = g.seat_count in omega arith in
    let numbers : (weight : ℕ → ℕ) → sum_by (λ (s : SeatModel). sum_by weight s.numbers) seats ≡ sum_below weight drawn = λ weight.
    g.numbers weight ∙ (sym (alone (λ u. sum_by weight u.numbers) knowledge id v at all_parts refl h.spent) ∙ h.draws.each_once weight) in
    let grants : (weight : ℕ → ℕ) → sum_by (λ (s : SeatModel). sum_by weight s.grants) seats ≡ sum_below weight asked = λ weight.
    g.grants weight ∙ (sym (alone (λ u. sum_by weight u.grants) knowledge id v at all_parts refl h.spent) ∙ h.grants.each_once weight) in record {
      draws = each_once (λ s. s.numbers) drawn seats numbers;
      jobs_drawn = uses (λ s. s.numbers) drawn seats numbers desk.jobs some_job;
      draws_most = let most = counts_room (λ u. u.numbers) plan.jobs drawn knowledge h.draws in omega arith;
      draws_are = λ all.
          let least = all_overdraw (λ s. s.numbers) drawn seats numbers desk.jobs some_job (omega arith) all in
          let most = counts_room (λ u. u.numbers) plan.jobs drawn knowledge h.draws in
          omega arith;
      sighted = λ saw.
          let is : flag ≡ 1 = h.marked.known id v at (right_true v.flag v.saw_flag (sym g.saw_flag ∙ saw)) in
          let has = h.marked.raised is in
          let bit : SeatKnowledge → ℕ = λ u. cond u.flag 1 0 in
          let one = sum_at bit knowledge has.0 has.1 has.2 in
          let its_bit : bit has.1 ≡ 1 = ap (λ (b : Bool). cond b 1 0) has.3 in
          g.marks ∙ is_set v.flag (let e = alone bit knowledge id v at all_parts refl h.spent in omega arith);
      grants = λ total. spends total asked seats grants;
    }

-- what is known of the grants, where there is a total and where there is none
pub grants_by : (total : Option ℕ) (granted asked : ℕ) (seats : List SeatModel) → MatchOption total (granted ≡ 0) (λ n. granted ≡ min asked n)
    → ((n : ℕ) → AreGrantsOfTotal n (min asked n) seats) → MatchOption total (granted ≡ 0) (λ n. AreGrantsOfTotal n granted seats)
grants_by None granted asked seats is all = is
grants_by (Some n) granted asked seats is all = subst (λ (g : ℕ). AreGrantsOfTotal n g seats) (sym is) (all n)
