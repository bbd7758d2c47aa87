use Rattle.std.proofs.Common.{Some, length, sym, ap, ◌∙◌}
use Rattle.std.proofs.lemmas.List.{length-set}
use Rattle.tt_board.specs.Play.{length-play_of}
use Rattle.tt_game.specs.Game.{side_colour}
use Rattle.tt_game.proofs.line.Line.known_new.Goals as goal

pub is_new_by_hash-requires-clause-fits : goal.is_new_by_hash-requires-clause-fits
is_new_by_hash-requires-clause-fits c =
    let l = c.args.self.now in let k = side_colour l.frame l.state.to_move in
    sym (length-set l.state.present c.args.p (Some k)) ∙ ap length (sym c.requires.no_capture) ∙ length-play_of l.frame.size l.state.present k c.args.p
