use Rattle.std.proofs.Common.{List, ℕ, subst}
use Rattle.tt_game.specs.declared.frame.Frame.{Frame}
use Rattle.tt_game.specs.declared.frame.Side.{Side}
use Rattle.tsumego_show.specs.Written.{IsSetupText}
use Rattle.tsumego_show.proofs.marking.tree_with_stones.Goals as goal

pub returns-clause-reads : goal.returns-clause-reads
returns-clause-reads c =
    let text = c.in_ok-text.text.items in
    let points = c.args.board.now.points in
    subst (λ (side : Side). IsSetupText text c.args.line.now.frame points side) c.to_move.ensures
    (subst (λ (f : Frame). IsSetupText text f points c.to_move.result) c.frame-frame.ensures.value
    (subst (λ (read : List ℕ). IsSetupText read c.frame-frame.result.now points c.to_move.result) c.as_slice-2.ensures.value c.in_ok-check_setup.ensures))
