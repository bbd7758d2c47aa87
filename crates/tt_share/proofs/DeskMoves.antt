-- Each step keeps the rule of the desk.
use Rattle.std.proofs.Common.{◌≡◌, ℕ, ◌+◌, ◌-◌, ◌%◌, ◌^◌, ◌<◌, ◌≤◌, ◌≢◌, Bool, true, false, ◌||◌, List, [], ◌∷◌, ◌++◌, length, get_or, set, max, sum_by, slice_index}
use Rattle.std.proofs.Common.{cond, leb, nat_eq, true≢false, refl, sym, ap, ◌∙◌, subst, ⊎_elim, arith, zero-le}
use Rattle.std.proofs.lemmas.Bool.Decides.{nat_tests}
use Rattle.std.proofs.lemmas.List.Sums.{sum_by_push, sum_by-append}
use Rattle.std.specs.List.Sorted.{IsStrictlyIncreasing}
use mathlib.Core.Option.{some, some-injective}
use mathlib.Core.Logic.{dite}
use native.Mathlib.Decide.{ℕ_discrete}
use lib.ListN.{get_elem?}
use Rattle.atomic_table.proofs.Lists.{at_set, at_snoc, set_here, set_else, at_longer}
use Rattle.atomic_table.specs.Table.{keeps, Allows, Splits, Joins}
use Rattle.tt_share.specs.declared.desk.rule.SeatKnowledge.{SeatKnowledge}
use Rattle.tt_share.specs.declared.desk.rule.DeskSize.{DeskSize}
use Rattle.tt_share.specs.Desk.{fresh_knowledge, new_seat_knowledge, no_knowledge, knowledge_less_one_seat, joined_knowledge, knowledge_with_draw, knowledge_with_grant}
use Rattle.tt_share.specs.Desk.{knowledge_with_flag_raised, knowledge_with_look, overdraw_count, EachSeat, SomeSeat, AreDealtNumbers, IsFlagOfSeats, IsDesk}
use Rattle.tt_share.specs.Desk.{IsDeskInvariant, SeatState, CanBeNextNumber, IsSeatAfterDraw, IsSeatAfterAsk, IsSeatAfterRaise, IsSeatAfterLook}
use Rattle.tt_share.specs.Seats.{last_number}
use Rattle.tt_share.proofs.DeskLists.{at_within, sum_set, sum_at, sum_le, overdraw_below, none_below, below_by_weight, rising_push, rising_short, no_spares}

-- what holds at the seat that changed and held at each seat holds at each
pub each_set : (P : SeatKnowledge → Type 0) (knowledge : List SeatKnowledge) (id : ℕ) (w : SeatKnowledge) → P w → EachSeat P knowledge → EachSeat P (set knowledge id w)
each_set P knowledge id w mine all seat u at =
    ⊎_elim (λ (x : (seat ≡ id) × (w ≡ u)). subst P x.1 mine) (λ (x : (seat ≢ id) × (get_elem? knowledge seat ≡ some u)). all seat u x.1) (at_set knowledge id seat w u at)

-- at the seat that changed, and at a new one
each_cut : (P : SeatKnowledge → Type 0) (knowledge : List SeatKnowledge) (id : ℕ) (w new : SeatKnowledge) → P w → P new → EachSeat P knowledge → EachSeat P (set knowledge id w ++ new ∷ [])
each_cut P knowledge id w new one two all seat u is =
    ⊎_elim (λ (was : get_elem? (set knowledge id w) seat ≡ some u). each_set P knowledge id w one all seat u was) (λ (same : new ≡ u). subst P same two) (at_snoc (set knowledge id w) new u seat is)

-- some seat still meets P where one changed, if the change keeps P
some_set : (P : SeatKnowledge → Type 0) (knowledge : List SeatKnowledge) (id : ℕ) (v w : SeatKnowledge) → get_elem? knowledge id ≡ some v → (P v → P w)
    → SomeSeat P knowledge → SomeSeat P (set knowledge id w)
some_set P knowledge id v w at keep has =
    dite (ℕ_discrete has.0 id)
    (λ e. (id, w, set_here knowledge id w (at_within knowledge id v at), keep (subst P (some-injective has.1 v (sym (has.2) ∙ ap (get_elem? knowledge) e ∙ at)) has.3)))
    (λ ne. (has.0, has.1, set_else knowledge id has.0 w ne ∙ has.2, has.3))

-- the empty list rises
no_rise : IsStrictlyIncreasing []
no_rise k h = absurd (omega arith)

-- the lists of one kind of number, and how each step changes what they count
module _ (numbers : SeatKnowledge → List ℕ) (limit : ℕ) where
  -- the count is at most the limit and the seats that they stand for
  pub counts_room : (count : ℕ) (knowledge : List SeatKnowledge) → AreDealtNumbers numbers limit count knowledge → count ≤ limit + sum_by (λ v. v.seat_count) knowledge
  counts_room count knowledge h =
      let spares = sum_le (λ v. overdraw_count limit (numbers v)) (λ v. v.seat_count) knowledge h.spares in
      let all = h.each_once (λ n. cond (leb limit n) 1 0) in
      omega (arith, overdraw_below limit count)

  -- each number in a seat is below the count
  pub counts_below : (count : ℕ) (knowledge : List SeatKnowledge) (id : ℕ) (v : SeatKnowledge) → AreDealtNumbers numbers limit count knowledge
      → get_elem? knowledge id ≡ some v → (k : ℕ) → k < length (numbers v)
      → get_or (numbers v) k 0 < count
  counts_below count knowledge id v h at k lt =
      let weight : ℕ → ℕ = λ n. cond (leb count n) 1 0 in
      let all = h.each_once weight in
      let nothing = none_below count count (omega arith) in
      let mine = sum_at (λ u. sum_by weight (numbers u)) knowledge id v at in
      below_by_weight (numbers v) count k (omega arith) lt

  -- where a seat changes and keeps its numbers and its count of seats, the count stays
  counts_same : (count : ℕ) (knowledge : List SeatKnowledge) (id : ℕ) (v w : SeatKnowledge) → AreDealtNumbers numbers limit count knowledge
      → get_elem? knowledge id ≡ some v → numbers w ≡ numbers v → w.seat_count ≡ v.seat_count
      → AreDealtNumbers numbers limit count (set knowledge id w)
  counts_same count knowledge id v w h at same seat_count = record {
    each_once = λ weight.
        let s = sum_set (λ u. sum_by weight (numbers u)) knowledge id v w at in
        let e = ap (sum_by weight) same in
        let was = h.each_once weight in omega arith;
    spares = each_set (λ u. overdraw_count limit (numbers u) ≤ u.seat_count) knowledge id w
        (let was = h.spares id v at in let e = ap (overdraw_count limit) same in omega arith) h.spares;
    rising = each_set (λ u. u.seat_count ≡ 1 → IsStrictlyIncreasing (numbers u)) knowledge id w
        (λ one. subst IsStrictlyIncreasing (sym same) (h.rising id v at (sym seat_count ∙ one))) h.rising;
  }

  -- where a seat that stands for itself and ends below the limit gets the count as a number, there is one more
  counts_add : (count : ℕ) (knowledge : List SeatKnowledge) (id : ℕ) (v w : SeatKnowledge) → AreDealtNumbers numbers limit count knowledge
      → get_elem? knowledge id ≡ some v → v.seat_count ≡ 1 → last_number (numbers v) < limit
      → numbers w ≡ numbers v ++ count ∷ [] → w.seat_count ≡ 1 → AreDealtNumbers numbers limit (count + 1) (set knowledge id w)
  counts_add count knowledge id v w h at one within is one' =
      let up = h.rising id v at one in record {
        each_once = λ weight.
            let s = sum_set (λ u. sum_by weight (numbers u)) knowledge id v w at in
            let e = ap (sum_by weight) is in
            let p = sum_by_push weight (numbers v) count in
            let was = h.each_once weight in grind arith;
        spares = each_set (λ u. overdraw_count limit (numbers u) ≤ u.seat_count) knowledge id w
            (let none_overdraw = no_spares (numbers v) limit up within in
            let p = sum_by_push (λ n. cond (leb limit n) 1 0) (numbers v) count in
            let e = ap (overdraw_count limit) is in grind (arith, nat_tests)) h.spares;
        rising = each_set (λ u. u.seat_count ≡ 1 → IsStrictlyIncreasing (numbers u)) knowledge id w
            (λ _. subst IsStrictlyIncreasing (sym is) (rising_push (numbers v) count up (counts_below count knowledge id v h at))) h.rising;
      }

  -- where a seat without numbers becomes two without numbers, the count stays
  counts_cut : (count : ℕ) (knowledge : List SeatKnowledge) (id : ℕ) (v w new : SeatKnowledge) → AreDealtNumbers numbers limit count knowledge
      → get_elem? knowledge id ≡ some v → numbers v ≡ [] → numbers w ≡ [] → numbers new ≡ []
      → AreDealtNumbers numbers limit count (set knowledge id w ++ new ∷ [])
  counts_cut count knowledge id v w new h at v_none w_none new_none = record {
    each_once = λ weight.
        let s = sum_set (λ u. sum_by weight (numbers u)) knowledge id v w at in
        let p = sum_by_push (λ (u : SeatKnowledge). sum_by weight (numbers u)) (set knowledge id w) new in
        let a = ap (sum_by weight) v_none in
        let b = ap (sum_by weight) w_none in
        let c = ap (sum_by weight) new_none in
        let was = h.each_once weight in omega arith;
    spares = each_cut (λ u. overdraw_count limit (numbers u) ≤ u.seat_count) knowledge id w new
        (subst (λ (l : List ℕ). overdraw_count limit l ≤ w.seat_count) (sym w_none) zero-le)
        (subst (λ (l : List ℕ). overdraw_count limit l ≤ new.seat_count) (sym new_none) zero-le) h.spares;
    rising = each_cut (λ u. u.seat_count ≡ 1 → IsStrictlyIncreasing (numbers u)) knowledge id w new
        (λ _. subst IsStrictlyIncreasing (sym w_none) no_rise) (λ _. subst IsStrictlyIncreasing (sym new_none) no_rise) h.rising;
  }

  -- where one seat takes over the numbers and seats of another one, the count stays
  counts_join : (count : ℕ) (knowledge : List SeatKnowledge) (id : ℕ) (v : SeatKnowledge) (other : ℕ) (w both left : SeatKnowledge)
      → AreDealtNumbers numbers limit count knowledge → get_elem? knowledge id ≡ some v
      → get_elem? knowledge other ≡ some w
      → get_elem? (set knowledge id both) other ≡ some w → numbers both ≡ numbers v ++ numbers w → both.seat_count ≡ v.seat_count + w.seat_count → numbers left ≡ []
      → 0 < v.seat_count → 0 < w.seat_count
      → AreDealtNumbers numbers limit count (set (set knowledge id both) other left)
  counts_join count knowledge id v other w both left h at was at' is seat_count none_left some_v some_w = record {
    each_once = λ weight.
        let s = sum_set (λ u. sum_by weight (numbers u)) knowledge id v both at in
        let t = sum_set (λ u. sum_by weight (numbers u)) (set knowledge id both) other w left at' in
        let p = sum_by-append weight (numbers v) (numbers w) in
        let e = ap (sum_by weight) is in
        let z = ap (sum_by weight) none_left in
        let old = h.each_once weight in omega arith;
    spares = each_set (λ u. overdraw_count limit (numbers u) ≤ u.seat_count) (set knowledge id both) other left
        (subst (λ (l : List ℕ). overdraw_count limit l ≤ left.seat_count) (sym none_left) zero-le)
        (each_set (λ u. overdraw_count limit (numbers u) ≤ u.seat_count) knowledge id both
        (let p = sum_by-append (λ n. cond (leb limit n) 1 0) (numbers v) (numbers w) in
        let e = ap (overdraw_count limit) is in
        let a = h.spares id v at in
        let b = h.spares other w was in omega arith) h.spares);
    rising = each_set (λ u. u.seat_count ≡ 1 → IsStrictlyIncreasing (numbers u)) (set knowledge id both) other left
        (λ _. subst IsStrictlyIncreasing (sym none_left) no_rise)
        (each_set (λ u. u.seat_count ≡ 1 → IsStrictlyIncreasing (numbers u)) knowledge id both (λ one. absurd (omega arith)) h.rising);
  }

-- where a seat changes and keeps its count of seats, the seats that they stand for are as many as before
parts_same : (knowledge : List SeatKnowledge) (id : ℕ) (v w : SeatKnowledge) → get_elem? knowledge id ≡ some v → w.seat_count ≡ v.seat_count
    → sum_by (λ u. u.seat_count) (set knowledge id w) ≡ sum_by (λ u. u.seat_count) knowledge
parts_same knowledge id v w at same = let s = sum_set (λ u. u.seat_count) knowledge id v w at in omega arith

-- where a seat that stands for itself takes a seat's slot, seats that stand for none still hold nothing
spent_same : (knowledge : List SeatKnowledge) (id : ℕ) (w : SeatKnowledge) → w.seat_count ≡ 1 → EachSeat (λ u. u.seat_count ≡ 0 → u ≡ no_knowledge) knowledge
    → EachSeat (λ u. u.seat_count ≡ 0 → u ≡ no_knowledge) (set knowledge id w)
spent_same knowledge id w one spent = each_set (λ u. u.seat_count ≡ 0 → u ≡ no_knowledge) knowledge id w (λ e. absurd (omega arith)) spent

-- where a seat changes and keeps its flag and whether it saw it, what the flag says stays so
flag_kept : (flag : ℕ) (knowledge : List SeatKnowledge) (id : ℕ) (v w : SeatKnowledge) → get_elem? knowledge id ≡ some v → w.flag ≡ v.flag → w.saw_flag ≡ v.saw_flag
    → IsFlagOfSeats flag knowledge → IsFlagOfSeats flag (set knowledge id w)
flag_kept flag knowledge id v w at same_flag same_saw_flag h = record {
  bit = h.bit;
  raised = λ is. some_set (λ u. u.flag ≡ true) knowledge id v w at (λ p. same_flag ∙ p) (h.raised is);
  known = each_set (λ u. (u.flag || u.saw_flag) ≡ true → flag ≡ 1) knowledge id w (λ p. h.known id v at (sym (λ k. same_flag k || same_saw_flag k) ∙ p)) h.known;
}

-- the number after a draw does not wrap
no_wrap : (n m : ℕ) → n ≤ m → m + 1 < 2 ^ 64 → (n + 1) % 2 ^ 64 ≡ n + 1
no_wrap n m le small = omega arith

-- the number that a step finds is the seat's next one
next_one : (numbers : SeatKnowledge → List ℕ) (limit count : ℕ) (knowledge : List SeatKnowledge) (id : ℕ) (v : SeatKnowledge)
    → AreDealtNumbers numbers limit count knowledge → get_elem? knowledge id ≡ some v
    → v.seat_count ≡ 1 → CanBeNextNumber (numbers v) count
next_one numbers limit count knowledge id v h at one =
    let up = h.rising id v at one in
    let below = counts_below numbers limit count knowledge id v h at in (rising_push (numbers v) count up below, rising_short (numbers v) count up below)

-- a draw keeps the rule, and finds the seat's next number
pub draws : (plan : DeskSize) (slots id : ℕ) (me : SeatState) → plan.jobs + plan.seats + 1 < 2 ^ 64 → me.1 ≡ [] → me.0.seat_count ≡ 1 → last_number me.0.numbers < plan.jobs
    → Allows (IsDeskInvariant plan) slots id me 0 (λ n. (n + 1) % 2 ^ 64) (λ n after. IsSeatAfterDraw me n after)
draws plan slots id me small empty one job s h homes at fits =
    let v : SeatKnowledge = me.0 in
    let here : slice_index s.words 0 ≡ h.0 = ap (λ (l : List ℕ). slice_index l 0) h.3 in
    let room = counts_room (λ u. u.numbers) plan.jobs h.0 s.views h.4.draws in
    let next : (slice_index s.words 0 + 1) % 2 ^ 64 ≡ h.0 + 1 = ap (λ (n : ℕ). (n + 1) % 2 ^ 64) here ∙ no_wrap h.0 (plan.jobs + plan.seats) (let p = h.4.seat_count in omega arith) small in
    let w : SeatKnowledge = knowledge_with_draw v h.0 in
    let desk : IsDesk plan (h.0 + 1) h.1 h.2 (set s.views id w) = record {
      seat_count = parts_same s.views id v w at refl ∙ h.4.seat_count;
      spent = spent_same s.views id w one h.4.spent;
      draws = counts_add (λ u. u.numbers) plan.jobs h.0 s.views id v w h.4.draws at one job refl one;
      marked = flag_kept h.1 s.views id v w at refl refl h.4.marked;
      grants = counts_same (λ u. u.grants) plan.total h.2 s.views id v w h.4.grants at refl refl;
    } in (
      knowledge_with_draw v (slice_index s.words 0),
      keeps,
      tt,
      (h.0 + 1, h.1, h.2, (λ k. set (h.3 k) 0 (next k)), subst (λ (n : ℕ). IsDesk plan (h.0 + 1) h.1 h.2 (set s.views id (knowledge_with_draw v n))) (sym here) desk),
      (refl, subst (λ (n : ℕ). CanBeNextNumber v.numbers n) (sym here) (next_one (λ u. u.numbers) plan.jobs h.0 s.views id v h.4.draws at one)),
    )

-- an ask for a grant keeps the rule, and finds the seat's next number
pub grants : (plan : DeskSize) (slots id : ℕ) (me : SeatState) → plan.total + plan.seats + 1 < 2 ^ 64 → me.1 ≡ [] → me.0.seat_count ≡ 1 → last_number me.0.grants < plan.total
    → Allows (IsDeskInvariant plan) slots id me 2 (λ n. (n + 1) % 2 ^ 64) (λ n after. IsSeatAfterAsk me n after)
grants plan slots id me small empty one left s h homes at fits =
    let v : SeatKnowledge = me.0 in
    let here : slice_index s.words 2 ≡ h.2 = ap (λ (l : List ℕ). slice_index l 2) h.3 in
    let room = counts_room (λ u. u.grants) plan.total h.2 s.views h.4.grants in
    let next : (slice_index s.words 2 + 1) % 2 ^ 64 ≡ h.2 + 1 = ap (λ (n : ℕ). (n + 1) % 2 ^ 64) here ∙ no_wrap h.2 (plan.total + plan.seats) (let p = h.4.seat_count in omega arith) small in
    let w : SeatKnowledge = knowledge_with_grant v h.2 in
    let desk : IsDesk plan h.0 h.1 (h.2 + 1) (set s.views id w) = record {
      seat_count = parts_same s.views id v w at refl ∙ h.4.seat_count;
      spent = spent_same s.views id w one h.4.spent;
      draws = counts_same (λ u. u.numbers) plan.jobs h.0 s.views id v w h.4.draws at refl refl;
      marked = flag_kept h.1 s.views id v w at refl refl h.4.marked;
      grants = counts_add (λ u. u.grants) plan.total h.2 s.views id v w h.4.grants at one left refl one;
    } in (
      knowledge_with_grant v (slice_index s.words 2),
      keeps,
      tt,
      (h.0, h.1, h.2 + 1, (λ k. set (h.3 k) 2 (next k)), subst (λ (n : ℕ). IsDesk plan h.0 h.1 (h.2 + 1) (set s.views id (knowledge_with_grant v n))) (sym here) desk),
      (refl, subst (λ (n : ℕ). CanBeNextNumber v.grants n) (sym here) (next_one (λ u. u.grants) plan.total h.2 s.views id v h.4.grants at one)),
    )

-- raising the flag keeps the rule
pub raises : (plan : DeskSize) (slots id : ℕ) (me : SeatState) → me.1 ≡ [] → me.0.seat_count ≡ 1 → Allows (IsDeskInvariant plan) slots id me 1 (λ n. max n 1) (λ _ after. IsSeatAfterRaise me after)
raises plan slots id me empty one s h homes at fits =
    let v : SeatKnowledge = me.0 in
    let w : SeatKnowledge = knowledge_with_flag_raised v in
    let here : slice_index s.words 1 ≡ h.1 = ap (λ (l : List ℕ). slice_index l 1) h.3 in
    let next : max (slice_index s.words 1) 1 ≡ 1 = let b = h.4.marked.bit in omega arith in (
      w,
      keeps,
      tt,
      (
        h.0,
        1,
        h.2,
        (λ k. set (h.3 k) 1 (next k)),
        record {
          seat_count = parts_same s.views id v w at refl ∙ h.4.seat_count;
          spent = spent_same s.views id w one h.4.spent;
          draws = counts_same (λ u. u.numbers) plan.jobs h.0 s.views id v w h.4.draws at refl refl;
          marked = record {
            bit = omega arith;
            raised = λ is. (id, w, set_here s.views id w (at_within s.views id v at), refl);
            known = λ seat u e p. refl;
          };
          grants = counts_same (λ u. u.grants) plan.total h.2 s.views id v w h.4.grants at refl refl;
        },
      ),
      refl,
    )

-- what follows from what was known, and from what is new, follows from both together
seen_now : (a b c : Bool) (φ : Type 0) → (a || (b || c)) ≡ true → ((a || b) ≡ true → φ) → (c ≡ true → φ) → φ
seen_now true b c φ p old new = old refl
seen_now false true c φ p old new = old refl
seen_now false false c φ p old new = new p

-- a seat that looks at the flag leaves a desk a desk
desk_looks : (plan : DeskSize) (drawn flag asked : ℕ) (knowledge : List SeatKnowledge) (id : ℕ) (v : SeatKnowledge) → IsDesk plan drawn flag asked knowledge
    → get_elem? knowledge id ≡ some v → v.seat_count ≡ 1
    → IsDesk plan drawn flag asked (set knowledge id (knowledge_with_look v (nat_eq flag 1)))
desk_looks plan drawn flag asked knowledge id v h at one = let w : SeatKnowledge = knowledge_with_look v (nat_eq flag 1) in record {
  seat_count = parts_same knowledge id v w at refl ∙ h.seat_count;
  spent = spent_same knowledge id w one h.spent;
  draws = counts_same (λ u. u.numbers) plan.jobs drawn knowledge id v w h.draws at refl refl;
  marked = record {
    bit = h.marked.bit;
    raised = λ is. some_set (λ u. u.flag ≡ true) knowledge id v w at (λ p. p) (h.marked.raised is);
    known = each_set (λ u. (u.flag || u.saw_flag) ≡ true → flag ≡ 1) knowledge id w
        (λ p. seen_now v.flag v.saw_flag (nat_eq flag 1) (flag ≡ 1) p (h.marked.known id v at) (λ e. grind (arith, nat_tests))) h.marked.known;
  };
  grants = counts_same (λ u. u.grants) plan.total asked knowledge id v w h.grants at refl refl;
}

-- looking at the flag keeps the rule
pub looks : (plan : DeskSize) (slots id : ℕ) (me : SeatState) → me.1 ≡ [] → me.0.seat_count ≡ 1 → Allows (IsDeskInvariant plan) slots id me 1 (λ n. n) (λ n after. IsSeatAfterLook me n after)
looks plan slots id me empty one s h homes at fits =
    let v : SeatKnowledge = me.0 in
    let here : slice_index s.words 1 ≡ h.1 = ap (λ (l : List ℕ). slice_index l 1) h.3 in (
      knowledge_with_look v (nat_eq (slice_index s.words 1) 1),
      keeps,
      tt,
      (
        h.0,
        h.1,
        h.2,
        (λ k. set (h.3 k) 1 (here k)),
        subst (λ (n : ℕ). IsDesk plan h.0 h.1 h.2 (set s.views id (knowledge_with_look v (nat_eq n 1)))) (sym here) (desk_looks plan h.0 h.1 h.2 s.views id v h.4 at one),
      ),
      (refl, λ p. here ∙ h.4.marked.known id v at p),
    )

-- of the seats for which a seat stands, one that has made no step becomes a seat of its own
desk_cuts : (plan : DeskSize) (drawn flag asked : ℕ) (knowledge : List SeatKnowledge) (id seat_count more : ℕ) → more ≡ seat_count + 1
    → IsDesk plan drawn flag asked knowledge → get_elem? knowledge id ≡ some (fresh_knowledge more)
    → IsDesk plan drawn flag asked (set knowledge id (fresh_knowledge seat_count) ++ new_seat_knowledge ∷ [])
desk_cuts plan drawn flag asked knowledge id seat_count more is_more h at =
    let v : SeatKnowledge = fresh_knowledge more in
    let w : SeatKnowledge = fresh_knowledge seat_count in record {
      seat_count =
          let s = sum_set (λ u. u.seat_count) knowledge id v w at in
          let p = sum_by_push (λ (u : SeatKnowledge). u.seat_count) (set knowledge id w) new_seat_knowledge in
          omega (arith, h.seat_count);
      spent = each_cut (λ u. u.seat_count ≡ 0 → u ≡ no_knowledge) knowledge id w new_seat_knowledge (λ e. ap fresh_knowledge e) (λ e. ap fresh_knowledge e) h.spent;
      draws = counts_cut (λ u. u.numbers) plan.jobs drawn knowledge id v w new_seat_knowledge h.draws at refl refl refl;
      marked = record {
        bit = h.marked.bit;
        raised = λ is. let has = some_set (λ u. u.flag ≡ true) knowledge id v w at (λ p. p) (h.marked.raised is) in
            (has.0, has.1, at_longer (set knowledge id w) (new_seat_knowledge ∷ []) has.0 has.1 has.2, has.3);
        known = each_cut (λ u. (u.flag || u.saw_flag) ≡ true → flag ≡ 1) knowledge id w new_seat_knowledge (λ p. absurd (true≢false (sym p))) (λ p. absurd (true≢false (sym p))) h.marked.known;
      };
      grants = counts_cut (λ u. u.grants) plan.total asked knowledge id v w new_seat_knowledge h.grants at refl refl refl;
    }

-- handing out a seat keeps the rule
pub cuts : (plan : DeskSize) (id : ℕ) (v : SeatKnowledge) → v ≡ fresh_knowledge v.seat_count → 0 < v.seat_count → Splits (IsDeskInvariant plan) id v (knowledge_less_one_seat v) new_seat_knowledge
cuts plan id v is_blank some_part =
    subst (λ (u : SeatKnowledge). Splits (IsDeskInvariant plan) id u (knowledge_less_one_seat u) new_seat_knowledge) (sym is_blank)
    (λ s h at. (h.0, h.1, h.2, h.3, desk_cuts plan h.0 h.1 h.2 s.views id (v.seat_count - 1) v.seat_count (omega arith) h.4 at))

-- what follows from each of two follows where one of them is true
or_true : (a b : Bool) (φ : Type 0) → (a || b) ≡ true → (a ≡ true → φ) → (b ≡ true → φ) → φ
or_true true b φ p left right = left refl
or_true false b φ p left right = right p

pub left_true : (a b : Bool) → a ≡ true → (a || b) ≡ true
left_true true b e = refl
left_true false b e = absurd (true≢false (sym e))

pub right_true : (a b : Bool) → b ≡ true → (a || b) ≡ true
right_true true b e = refl
right_true false b e = e

-- two seats that are joined leave a desk a desk
desk_joins : (plan : DeskSize) (drawn flag asked : ℕ) (knowledge : List SeatKnowledge) (id : ℕ) (v : SeatKnowledge) (other : ℕ) (w : SeatKnowledge)
    → IsDesk plan drawn flag asked knowledge → get_elem? knowledge id ≡ some v
    → ¬ (other ≡ id) → get_elem? (set knowledge id (joined_knowledge v w)) other ≡ some w → 0 < v.seat_count → 0 < w.seat_count
    → IsDesk plan drawn flag asked (set (set knowledge id (joined_knowledge v w)) other no_knowledge)
desk_joins plan drawn flag asked knowledge id v other w h at two at' some_v some_w =
    let both : SeatKnowledge = joined_knowledge v w in
    let mid : List SeatKnowledge = set knowledge id both in
    let was : get_elem? knowledge other ≡ some w = sym (set_else knowledge id other both two) ∙ at' in
    let apart : id ≢ other = λ e. two (sym e) in
    let all : (P : SeatKnowledge → Type 0) → P both → P no_knowledge → EachSeat P knowledge → EachSeat P (set mid other no_knowledge) = λ P one none_left old.
    each_set P mid other no_knowledge none_left (each_set P knowledge id both one old) in
    let keep_both : get_elem? (set mid other no_knowledge) id ≡ some both = set_else mid other id no_knowledge apart ∙ set_here knowledge id both (at_within knowledge id v at) in record {
      seat_count =
          let s = sum_set (λ u. u.seat_count) knowledge id v both at in
          let t = sum_set (λ u. u.seat_count) mid other w no_knowledge at' in
          omega (arith, h.seat_count);
      spent = all (λ u. u.seat_count ≡ 0 → u ≡ no_knowledge) (λ e. absurd (omega arith)) (λ e. refl) h.spent;
      draws = counts_join (λ u. u.numbers) plan.jobs drawn knowledge id v other w both no_knowledge h.draws at was at' refl refl refl some_v some_w;
      marked = record {
        bit = h.marked.bit;
        raised = λ is. let has = h.marked.raised is in
            dite (ℕ_discrete has.0 other)
            (λ e. (id, both, keep_both, right_true v.flag w.flag (subst (λ (u : SeatKnowledge). u.flag ≡ true) (some-injective has.1 w (sym has.2 ∙ ap (get_elem? knowledge) e ∙ was)) has.3)))
            (λ ne. dite (ℕ_discrete has.0 id)
            (λ e. (id, both, keep_both, left_true v.flag w.flag (subst (λ (u : SeatKnowledge). u.flag ≡ true) (some-injective has.1 v (sym has.2 ∙ ap (get_elem? knowledge) e ∙ at)) has.3)))
            (λ ne'. (has.0, has.1, set_else mid other has.0 no_knowledge ne ∙ (set_else knowledge id has.0 both ne' ∙ has.2), has.3)));
        known = all (λ u. (u.flag || u.saw_flag) ≡ true → flag ≡ 1)
            (λ p. or_true (v.flag || w.flag) (v.saw_flag || w.saw_flag) (flag ≡ 1) p
            (λ q. or_true v.flag w.flag (flag ≡ 1) q (λ r. h.marked.known id v at (left_true v.flag v.saw_flag r)) (λ r. h.marked.known other w was (left_true w.flag w.saw_flag r)))
            (λ q. or_true v.saw_flag w.saw_flag (flag ≡ 1) q (λ r. h.marked.known id v at (right_true v.flag v.saw_flag r)) (λ r. h.marked.known other w was (right_true w.flag w.saw_flag r))))
            (λ p. absurd (true≢false (sym p))) h.marked.known;
      };
      grants = counts_join (λ u. u.grants) plan.total asked knowledge id v other w both no_knowledge h.grants at was at' refl refl refl some_v some_w;
    }

-- joining two seats keeps the rule
pub joins : (plan : DeskSize) (id : ℕ) (v : SeatKnowledge) (other : ℕ) (w : SeatKnowledge) → 0 < v.seat_count → 0 < w.seat_count
    → Joins (IsDeskInvariant plan) id v other w (joined_knowledge v w) no_knowledge
joins plan id v other w some_v some_w s h at two at' = (h.0, h.1, h.2, h.3, desk_joins plan h.0 h.1 h.2 s.views id v other w h.4 at two at' some_v some_w)
