use Rattle.std.proofs.Common.{◌∙◌, All, ap, ap₂, subst, sym}
use Rattle.tt_game.specs.declared.frame.Frame.{Frame}
use Rattle.tt_proof.specs.Strategy.{IsTurnOnBoardOfSize}
use Rattle.tt_solve.specs.Totals.{total_left}
use Rattle.tt_text.specs.declared.outcome.TreeOutcome.TheVariants.{Answered}
use Rattle.tt_text.specs.Solving.{answer_text}
use Rattle.tt_text.specs.inside.OnBoard.{IsFirstOnBoard}
use Rattle.tt_text.proofs.OnBoard.{first_on_board, turns_on_board}
use Rattle.tt_text.proofs.solving.answered.Goals as goal

pub answer_text-requires-clause-first : goal.answer_text-requires-clause-first
answer_text-requires-clause-first c =
    subst (λ (f : Frame). IsFirstOnBoard f.size c.args.solved.now.solution) (sym c.frame.ensures.value)
    (let options = c.requires.0 in first_on_board c.args.line.now options.limits options.total options.cert c.args.solved.now.solution c.requires.1.1.within)

pub answer_text-requires-clause-turns : goal.answer_text-requires-clause-turns
answer_text-requires-clause-turns c =
    subst (λ (f : Frame). All (λ e. IsTurnOnBoardOfSize f.size e.0) c.args.solved.now.turn_values.items) (sym c.frame.ensures.value)
    (let options = c.requires.0 in turns_on_board c.args.line.now options.limits (total_left options.total c.requires.1.0) options.turns c.args.solved.now.turn_values.items c.requires.1.2)

pub returns : goal.returns
returns c = λ options is.
    let solved = c.args.solved.now in
    let text = c.from_vec.ensures ∙ c.in_ok-text.ensures ∙ ap (λ (f : Frame). answer_text f.size solved) c.frame.ensures.value in
    (solved, ap₂ Answered c.value-value.ensures text, is)
