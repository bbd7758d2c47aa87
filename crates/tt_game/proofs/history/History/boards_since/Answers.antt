use Rattle.std.proofs.Common.{◌≡◌, drop, All, sym, ap, subst, ◌∙◌}
use Rattle.std.proofs.lemmas.List.{take_rest, drop-map}
use Rattle.std.proofs.lemmas.List.Elements.{All-drop}
use Rattle.tt_board.specs.Position.{Position}
use Rattle.tt_game.specs.GameHistory.{colourings}
use Rattle.tt_game.proofs.history.History.boards_since.Goals as goal

pub returns-clause-colourings : goal.returns-clause-colourings
returns-clause-colourings c =
    let from = c.args.from in let there = c.boards.result.now in
    ap colourings (take_rest there from) ∙ sym (drop-map (λ (b : Position). b.points) from there) ∙ ap (drop from) c.boards.ensures.colourings

pub returns-clause-sizes : goal.returns-clause-sizes
returns-clause-sizes c =
    let from = c.args.from in let there = c.boards.result.now in let g = c.args.self.now.size in
    subst (λ bs. All (λ (b : Position). b.size ≡ g) bs) (sym (take_rest there from)) (All-drop (λ (b : Position). b.size ≡ g) from there c.boards.ensures.sizes)
