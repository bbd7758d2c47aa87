use Rattle.std.proofs.Common.{◌≡◌, ◌++◌, Contains, sym, ap, subst, ◌∙◌}
use Rattle.std.specs.Arc.{arc_value}
use Rattle.tt_game.specs.GameHistory.{colourings}
use Rattle.tt_game.specs.Game.{history}
use Rattle.tt_game.specs.Line.{SnapshotState}
use Rattle.tt_game.proofs.GameHistoryLemmas.{history_is}
use Rattle.tt_game.proofs.RootLemmas.{made_among}
use Rattle.tt_game.proofs.history.snapshot.Snapshot.has_later_board.Goals as goal

pub returns : goal.returns
returns c =
    let i = c.self.inside in let root = arc_value i.root in let b = c.args.board.now in
    let own : history c.args.self.now.state ≡ colourings (root.begun ++ i.later) =
    ap (λ (x : SnapshotState). history x.state) (sym c.self.view_is) ∙ history_is root.frame.size (root.begun ++ i.later) i.passes c.self.invariant.some_board in
    λ y. subst (λ cs. Contains cs b.points) (sym own) (made_among root.begun i.later b (c.has.ensures y))
