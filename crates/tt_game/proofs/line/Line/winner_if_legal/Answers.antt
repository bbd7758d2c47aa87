use Rattle.std.proofs.Common.{rules, ◌≡◌, Some, None, set, Contains, sym, subst}
use Rattle.std.proofs.lemmas.List.Elements.{Contains-push}
use Rattle.tt_board.specs.Reach.{entry_at}
use Rattle.tt_game.specs.Game.{history, colouring_after_play, side_colour}
use Rattle.tt_game.specs.MoveGenerators.{IsForetoldKind}
use Rattle.tt_game.proofs.MoveGeneratorLemmas.{nobody_put}
use Rattle.tt_game.proofs.line.Line.winner_if_legal.Goals as goal

pub returns-in-NoCapture : goal.returns-in-NoCapture
returns-in-NoCapture c =
    let l = c.args.self.now in let p = c.args.p in
    let free : entry_at l.state.present p ≡ None = c.requires.free in
    let is = subst (λ g. IsForetoldKind g l.frame l.state p) c.in-NoCapture.is c.foretold_and_local_kind-kind_here.ensures.kind_here in
    ((c.requires.open, c.requires.on_board, free, c.requires.inside, is.0), sym (nobody_put l.frame l.state p c.requires.open free is.1))

pub returns-in-SingleStoneSuicide : goal.returns-in-SingleStoneSuicide
returns-in-SingleStoneSuicide c = λ legal.
    let l = c.args.self.now in let s = l.state in
    let same = subst (λ g. IsForetoldKind g l.frame s c.args.p) c.in-SingleStoneSuicide.is c.foretold_and_local_kind-kind_here.ensures.kind_here in
    legal.4 (subst (Contains (history s)) (sym same) (Contains-push s.earlier s.present))

pub returns-then-known_new : goal.returns-then-known_new
returns-then-known_new c =
    let l = c.args.self.now in let p = c.args.p in
    let no_capture : colouring_after_play l.frame l.state p ≡ set l.state.present p (Some (side_colour l.frame l.state.to_move)) = search rules in
    ((c.requires.open, c.requires.on_board, c.requires.free, c.requires.inside, c.known_new.ensures c.if-known_new.true), sym (nobody_put l.frame l.state p c.requires.open c.requires.free no_capture))
