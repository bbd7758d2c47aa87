use Rattle.std.proofs.Common.{rules, ◌≡◌, ◌≤◌, ◌+◌, ℕ, Option, None, subst, sym}
use Rattle.std.specs.Prelude.{MatchOption}
use Rattle.tt_sgf.specs.Sizes.{point_count}
use Rattle.tt_board.specs.Reach.{entry_at}
use Rattle.tt_marks.specs.declared.proposals.Candidate.{Candidate}
use Rattle.tt_marks.specs.Walls.{IsOfInnerGroup}
use Rattle.tt_marks.proofs.EnclosedLemmas.{IsBestBefore, best_more, best_past_empty, best_whole}
use Rattle.tt_marks.proofs.proposals.best_closed.Goals as goal
use Rattle.tt_marks.proofs.proposals.best_closed.Goals.{in-Some, in_default}

pub loop-number-preserved : goal.loop-number-preserved
loop-number-preserved c =
    let s = c.args.board.now.size in
    let points = c.args.board.now.points in
    let n = c.loop-number.number in
    elim c.match-at.branch [
      | in-Some w ↦
          let one = subst (λ (q : ℕ). MatchOption w.closed_candidate.result (IsOfInnerGroup s points q → ⊥) (λ m. IsOfInnerGroup s points m.stone))
          c.point_numbered-stone.ensures.value w.closed_candidate.ensures in
          subst (λ (b : Option Candidate). IsBestBefore s points (n + 1) b) (sym w.best-is)
          (best_more s points n c.loop-number.best w.closed_candidate.result w.smaller-best.result c.loop-number.invariant one w.smaller-best.ensures)
      | in_default w ↦
          let bare : entry_at points n ≡ None = search rules in
          subst (λ (b : Option Candidate). IsBestBefore s points (n + 1) b) (sym w.best-is) (best_past_empty s points n c.loop-number.best bare c.loop-number.invariant)
    ]

pub returns : goal.returns
returns c =
    let all : point_count c.args.board.now.size ≤ c.loop-number.number = search rules in
    best_whole c.args.board.now.size c.args.board.now.points c.loop-number.number c.loop-number.best all c.loop-number.invariant
