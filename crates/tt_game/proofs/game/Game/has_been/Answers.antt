use Rattle.std.proofs.Common.{◌≡◌, sym, ap, subst, ◌∙◌}
use Rattle.std.proofs.lemmas.Bool.{false≢true}
use Rattle.tt_sgf.specs.declared.size.Size.{Size}
use Rattle.tt_game.specs.GameHistory.{IsInHistory, so_far}
use Rattle.tt_game.specs.Games.{GameState, game_colourings}
use Rattle.tt_game.specs.Superko.{repeats, repeats_is_exact}
use Rattle.tt_game.specs.BloomFilter.{MayHold, filter_index}
use Rattle.tt_game.proofs.RecordLemmas.{been_is}
use Rattle.tt_game.proofs.game.Game.has_been.Goals as goal

pub returns : goal.returns
returns c = subst (λ (s : GameState). c.has_been_since.result ≡ repeats (game_colourings s) c.args.next.now.points) c.self.view_is (been_is _ _ _ c.has_been_since.ensures)

pub returns-then-not-has : goal.returns-then-not-has
returns-then-not-has c =
    let i = c.self.inside in let next = c.args.next.now in
    let size : i.history.size ≡ next.size = ap (λ (s : GameState). s.size) c.self.view_is ∙ sym c.requires.size in
    sym ((repeats_is_exact (game_colourings c.args.self.now) next.points).2 (λ has.
    let here : IsInHistory (so_far i.history) next.points = subst (λ (s : GameState). IsInHistory (game_colourings s) next.points) (sym c.self.view_is) has in
    let filter : MayHold i.filter (filter_index next.size next.points) =
    subst (λ (g : Size). MayHold i.filter (filter_index g next.points)) size (c.self.invariant.filter next.points here) in
    false≢true (sym c.if-not-has.true ∙ c.has.ensures.1 (subst (MayHold i.filter) (sym c.requires.hash) filter))))
