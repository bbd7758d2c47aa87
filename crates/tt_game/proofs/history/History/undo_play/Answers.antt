use Rattle.std.proofs.Common.{ap, ◌∙◌}
use Rattle.tt_game.specs.GameHistory.{GameHistory}
use Rattle.tt_game.specs.inside.Undoing.{without_play}
use Rattle.tt_game.proofs.GameHistoryLemmas.{game_history_undone}
use Rattle.tt_game.proofs.history.History.undo_play.Goals as goal

pub returns : goal.returns
returns c =
    let i = c.self.inside in
    game_history_undone i.size i.boards.items i.count i.passes c.args.passes c.self.invariant.count ∙ ap (λ (h : GameHistory). without_play h c.args.passes) c.self.view_is
