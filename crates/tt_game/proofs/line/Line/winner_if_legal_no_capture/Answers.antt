use Rattle.std.proofs.Common.{rules, ◌≡◌, sym, subst, ◌∙◌}
use Rattle.std.proofs.lemmas.Bool.{false≢true}
use Rattle.tt_game.specs.GameHistory.{IsInHistory}
use Rattle.tt_game.specs.Game.{history, colouring_after_play}
use Rattle.tt_game.proofs.MoveGeneratorLemmas.{nobody_put}
use Rattle.tt_game.proofs.line.Line.winner_if_legal_no_capture.Goals as goal

pub returns : goal.returns
returns c =
    let l = c.args.self.now in let r = c.requires in
    let shown : c.put_stone.new.self.points ≡ colouring_after_play l.frame l.state c.args.p = search rules in
    let new : IsInHistory (history l.state) (colouring_after_play l.frame l.state c.args.p) → ⊥ = λ has.
    false≢true (sym c.if-has_colouring_in_history.false ∙ c.has_colouring_in_history.ensures.1 (subst (IsInHistory (history l.state)) (sym shown) has)) in
    ((r.open, r.on_board, r.free, r.inside, new), sym (nobody_put l.frame l.state c.args.p r.open r.free r.put))
