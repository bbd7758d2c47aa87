use Rattle.std.proofs.Common.{rules, ◌<◌, ◌≤◌, take, length, sym, refl, subst, add-one, Contains}
use Rattle.std.proofs.lemmas.List.{take_all}
use Rattle.tt_game.specs.laws.Members.{IsIn, in_of_contains}
use Rattle.tt_parts.specs.Outlines.{branches_of_reply}
use Rattle.tt_parts.specs.SharedParts.{HasBranch}
use Rattle.tt_parts.proofs.OutlineReplayLemmas.{taken_more}
use Rattle.tt_parts.proofs.outline_replay.has_branch_for_each_turn.Goals as goal

pub loop-turn-preserved : goal.loop-turn-preserved
loop-turn-preserved c = λ t m.
    let ts = c.as_slice-turn-items.result.now in
    let n = c.loop-turn.turn-index in
    let lt : n < length ts = search rules in
    let here : HasBranch (branches_of_reply c.args.list.now) c.turn-item.result = c.has_branch.ensures.0 c.if-not-has_branch.false in
    taken_more (HasBranch (branches_of_reply c.args.list.now)) ts n c.turn-item.result lt c.turn-item.is c.loop-turn.invariant here t
    (subst (λ k. IsIn (take k ts) t) (add-one n) m)

pub returns : goal.returns
returns c =
    let ts = c.as_slice-turn-items.result.now in
    let n = c.loop-turn.turn-index in
    let end : length ts ≤ n = search rules in (
      λ e t l. c.loop-turn.invariant t
          (subst (λ xs. IsIn xs t) (sym (take_all n ts end))
          (in_of_contains ts t (subst (λ xs. Contains xs t) (sym c.as_slice-turn-items.ensures.value) ((c.turns-turns.ensures.legal t).1 l)))),
      λ h. refl,
    )
