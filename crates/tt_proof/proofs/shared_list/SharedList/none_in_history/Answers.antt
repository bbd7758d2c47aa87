use Rattle.std.proofs.Common.{rules, ◌≡◌, ◌↔◌, Contains, IsTrue, List, subst}
use Rattle.tt_board.specs.Position.{Position}
use Rattle.tt_game.specs.Line.{HasBoardInHistory}
use Rattle.tt_proof.proofs.shared_list.SharedList.none_in_history.Goals as goal

pub returns-in-Some : goal.returns-in-Some
returns-in-Some c =
    let line = c.args.line.now in
    let is : c.deref.result.now ≡ c.args.self.now = search rules in
    subst (λ (xs : List Position). IsTrue c.none_in_history.result ↔ ((b : Position) → Contains xs b → HasBoardInHistory line.frame line.state b → ⊥)) is c.none_in_history.ensures
