-- The rule of the desk, read in plain words.
use Rattle.std.proofs.Common.{◌≡◌, ℕ, zero, suc, ◌+◌, ◌<◌, ◌≤◌, List, [], ◌∷◌, length, get_or, sum_by, cond, leb, nat_eq, sym, ◌∙◌, subst, inl, inr, arith, refl}
use Rattle.std.proofs.lemmas.Bool.Decides.{nat_tests}
use Rattle.std.proofs.lemmas.List.Sums.{sum_by-cons, get_or-le-sum_by}
use mathlib.Core.Logic.{dite}
use native.Mathlib.Decide.{dec_lt}
use Rattle.tt_share.specs.declared.desk.rule.SeatKnowledge.{SeatKnowledge}
use Rattle.tt_share.specs.declared.desk.rule.DeskSize.{DeskSize}
use Rattle.tt_share.specs.Desk.{overdraw_count, AreDealtNumbers, IsFlagOfSeats, IsDesk}
use Rattle.tt_share.specs.DeskLaw.{EachNumberBelowOnce, IsStopFlag, IsDeskState, DeskLaw}
use Rattle.tt_share.proofs.DeskMoves.{left_true, right_true}
use Rattle.tt_share.proofs.DeskClosing.{ones, ones_below, never_below, once_below, sum_same}

-- two overdraw numbers, one behind the other, are two
two_spares : (limit : ℕ) (xs : List ℕ) (k : ℕ) → k + 1 < length xs → limit ≤ get_or xs k 0 → limit ≤ get_or xs (k + 1) 0 → 2 ≤ overdraw_count limit xs
two_spares limit [] k h one two = absurd (omega arith)
two_spares limit (x ∷ xs) zero h one two =
    let c = sum_by-cons (λ n. cond (leb limit n) 1 0) x xs in
    let b = get_or-le-sum_by (λ n. cond (leb limit n) 1 0) xs 0 0 (omega arith) in grind (arith, nat_tests)
two_spares limit (x ∷ xs) (suc k) h one two =
    let c = sum_by-cons (λ n. cond (leb limit n) 1 0) x xs in
    let next : suc k + 1 ≡ suc (k + 1) = omega arith in
    let more = two_spares limit xs k (omega arith) one (subst (λ (j : ℕ). limit ≤ get_or (x ∷ xs) j 0) next two) in omega arith

-- what numbers that are counted say in plain words
count_law : (list : SeatKnowledge → List ℕ) (limit word : ℕ) (knowledge : List SeatKnowledge) → AreDealtNumbers list limit word knowledge → EachNumberBelowOnce list limit word knowledge
count_law list limit word knowledge h = record {
  count = sum_same (λ v. length (list v)) (λ v. sum_by (λ _. 1) (list v)) knowledge (λ v. sym (ones (list v))) ∙ (h.each_once (λ _. 1) ∙ ones_below word);
  below = λ n lt. h.each_once (λ k. cond (nat_eq k n) 1 0) ∙ once_below n word lt;
  above = λ n le. h.each_once (λ k. cond (nat_eq k n) 1 0) ∙ never_below n word le;
  rising = h.rising;
  one_overdraw = λ seat v at one k lt.
      dite (dec_lt (get_or (list v) k 0) limit) (λ p. p)
      (λ ge. let up = h.rising seat v at one k lt in
      let two = two_spares limit (list v) k lt (omega arith) (omega arith) in
      let most = h.spares seat v at in absurd (omega arith));
  spares = h.spares;
}

-- what the flag says in plain words
stop_law : (word : ℕ) (knowledge : List SeatKnowledge) → IsFlagOfSeats word knowledge → IsStopFlag word knowledge
stop_law word knowledge h = record {
  bit = dite (dec_lt word 1) (λ lt. inl (omega arith)) (λ ge. let b = h.bit in inr (omega arith));
  raised = h.raised;
  flag = λ seat v at is. h.known seat v at (left_true v.flag v.saw_flag is);
  saw_flag = λ seat v at is. h.known seat v at (right_true v.flag v.saw_flag is);
}

-- what a desk says in plain words
state_law : (plan : DeskSize) (drawn flag asked : ℕ) (knowledge : List SeatKnowledge) → IsDesk plan drawn flag asked knowledge → IsDeskState plan (drawn ∷ flag ∷ asked ∷ []) knowledge
state_law plan drawn flag asked knowledge h = record {
  three_words = refl;
  seat_count = h.seat_count;
  spent = h.spent;
  draws = count_law (λ v. v.numbers) plan.jobs drawn knowledge h.draws;
  stop = stop_law flag knowledge h.marked;
  grants = count_law (λ v. v.grants) plan.total asked knowledge h.grants;
}

-- what the rule says of each state in plain words
pub desk_law : DeskLaw
desk_law plan s h = subst (λ (words : List ℕ). IsDeskState plan words s.views) (sym h.3) (state_law plan h.0 h.1 h.2 s.views h.4)
