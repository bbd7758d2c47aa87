use Rattle.std.proofs.Common.{◌≡◌, ◌<◌, length, get_or, Contains, sym, ap, subst, ◌∙◌, arith}
use Rattle.std.proofs.lemmas.List.{get_or-map, get_or_default, length-map}
use Rattle.tt_board.specs.Position.{Position}
use Rattle.tt_game.specs.GameHistory.{colourings}
use Rattle.tt_game.proofs.history.History.has_colouring_at.Goals as goal

pub returns-then-index-boards : goal.returns-then-index-boards
returns-then-index-boards c = λ y.
    let bs = c.boards-boards.result.now in let next = c.args.next.now in let board = c.index-boards-index.result in let k = c.args.index in
    let lt : k < length bs = omega (arith, c.if-index-boards.true) in
    let is : get_or bs k next ≡ next = get_or_default bs k next board lt ∙ sym c.index-boards-index.is ∙ c.same.ensures.0 y in
    let shown : get_or (colourings bs) k next.points ≡ next.points = get_or-map (λ (b : Position). b.points) bs k next next.points lt ∙ ap (λ (b : Position). b.points) is in
    subst (λ h. Contains h next.points) c.boards-boards.ensures.colourings (k, subst (λ n. k < n) (sym (length-map bs (λ b. b.points))) lt, shown)
