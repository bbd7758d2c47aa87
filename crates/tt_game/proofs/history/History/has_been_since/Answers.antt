use Rattle.std.proofs.Common.{◌≡◌, ◌-◌, IsTrue, length, take, drop, sym, ap, subst, ◌∙◌}
use Rattle.std.proofs.lemmas.List.{take_rest, drop-map}
use Rattle.tt_board.specs.Position.{Position}
use Rattle.tt_game.specs.GameHistory.{IsInHistory, colourings, so_far}
use Rattle.tt_game.proofs.history.History.has_been_since.Goals as goal

pub returns : goal.returns
returns c =
    let from = c.args.from in let there = c.boards.result.now in let next = c.args.next.now.points in
    let behind : drop from (so_far c.args.self.now) ≡ colourings (take (length there - from) (drop from there)) =
    ap (drop from) (sym c.boards.ensures.colourings) ∙ drop-map (λ (b : Position). b.points) from there ∙ ap colourings (sym (take_rest there from)) in
    subst (λ h. (IsTrue c.repeats.result → IsInHistory h next) × (IsInHistory h next → IsTrue c.repeats.result)) (sym behind) c.repeats.ensures
