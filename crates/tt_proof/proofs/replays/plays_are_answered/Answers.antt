use Rattle.std.proofs.Common.{◌≡◌, ℕ, ◌<◌, ◌≤◌, ◌+◌, inl, inr, sym, ◌∙◌, subst, length, arith, rules, false, IsTrue, true≢false}
use Rattle.std.proofs.lemmas.Bool.{cases_lt}
use Rattle.std.specs.FinSet as set
use Rattle.tt_game.specs.declared.turns.Turn.TheVariants.{Play}
use Rattle.tt_game.specs.Game.{IsLegal}
use Rattle.tt_sgf.specs.Sizes.{point_count}
use Rattle.tt_proof.specs.Strategy.{entries_of_reply}
use Rattle.tt_proof.specs.inside.Replaying.{HasEntry}
use Rattle.tt_proof.proofs.replays.plays_are_answered.Goals as goal
use Rattle.tt_proof.proofs.replays.plays_are_answered.Goals.{then-has_turn_at, else-has_turn_at+else-holds, else-holds-via-then-holds+else-not-is_answered_or_illegal, else-holds-via-else-holds}

-- what holds below `from`, from there to p, and at p
up_to : (P : ℕ → Type 0) (from p : ℕ) → ((q : ℕ) → q < from → P q) → ((q : ℕ) → from ≤ q → q < p → P q) → P p →
    (q : ℕ) → q < p + 1 → P q
up_to P from p below between here q lt =
    elim (cases_lt q from) [
      | inl h ↦ below q h
      | inr h ↦ elim (cases_lt q p) [ inl k ↦ between q h k | inr k ↦ subst P (let e : p ≡ q = omega arith in e) here ]
    ]

pub loop-p-preserved : goal.loop-p-preserved
loop-p-preserved c =
    let f = c.args.line.now.frame in let s = c.args.line.now.state in let p = c.in-Some.p in
    let between : (q : ℕ) → c.loop-p.from ≤ q → q < p → IsLegal f s (Play q) → HasEntry (entries_of_reply c.args.list.now) (Play q) =
    λ q after before l.
    let inside : IsTrue (set.contains f.region q) = l.3 in
    let no : set.contains f.region q ≡ false = rw (← c.frame-frame.ensures.value) (c.in-Some.ensures.2 q after before) in
    absurd (true≢false (sym inside ∙ no)) in
    let here : IsLegal f s (Play p) → HasEntry (entries_of_reply c.args.list.now) (Play p) =
    elim c.if-has_turn_at.branch [
      | then-has_turn_at w ↦ λ l. c.has_turn_at.ensures.entry w.if-has_turn_at.true
      | else-has_turn_at+else-holds w ↦ elim w.else-holds.branch [
        | else-holds-via-then-holds+else-not-is_answered_or_illegal w' ↦ w'.is_answered_or_illegal.ensures.0 w'.if-not-is_answered_or_illegal.false
        | else-holds-via-else-holds w' ↦ λ l. let on : p < point_count f.size = l.1 in absurd (search rules)
      ]
    ] in
    let within : c.if-has_turn_at.index ≤ length c.args.list.now = search rules in
    let is = c.number-from.ensures.number in
    record {
      within = within;
      below = λ q lt. up_to (λ k. IsLegal f s (Play k) → HasEntry (entries_of_reply c.args.list.now) (Play k))
          c.loop-p.from p c.loop-p.invariant.below between here q (let le : q < p + 1 = omega (arith, lt, is) in le);
    }
