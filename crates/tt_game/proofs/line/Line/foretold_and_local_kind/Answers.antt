use Rattle.std.proofs.Common.{rules, ◌≡◌, length, set, Some, false, sym, ap, subst, ◌∙◌}
use Rattle.std.proofs.lemmas.Bool.{false≢true}
use Rattle.tt_sgf.specs.Sizes.{point_count}
use Rattle.tt_sgf.specs.MachineWords.{bit_in}
use Rattle.tt_board.specs.PlayKind.{IsPlayOfKind}
use Rattle.tt_board.specs.Position.{Position}
use Rattle.tt_board.specs.Play.{play_of}
use Rattle.tt_game.specs.inside.Undoing.{board_on}
use Rattle.tt_game.proofs.MoveGeneratorLemmas.{no_capture_where_new}
use Rattle.tt_game.proofs.line.Line.foretold_and_local_kind.Goals as goal

pub returns-else-has-3-clause-kind_here : goal.returns-else-has-3-clause-kind_here
returns-else-has-3-clause-kind_here c =
    let l = c.args.self.now in let p = c.args.p in let v = c.args.moves.now in let k = v.colour in let made = c.requires.moves in
    let shown : c.counted_board.result.now ≡ board_on l.frame.size l.state.present = c.counted_board.ensures in
    let fits : length l.state.present ≡ point_count l.frame.size = subst (λ (b : Position). length b.points ≡ point_count b.size) shown c.play_kind-kind.ensures.fits in
    let no_capture : play_of l.frame.size l.state.present k p ≡ set l.state.present p (Some k) =
    subst (λ (b : Position). play_of b.size b.points k p ≡ set b.points p (Some k)) shown
    (subst (λ g. IsPlayOfKind g c.counted_board.result.now.size c.counted_board.result.now.points k p) c.in-NoCapture.is c.play_kind-kind.ensures.kind) in
    let index : c.from-in-NoCapture.result ≡ p = search rules in
    let new : bit_in v.stood.words p ≡ false = ap (bit_in v.stood.words) (sym index) ∙ sym c.has-in-NoCapture.ensures ∙ c.if-has-3.false in
    no_capture_where_new l.frame l.state k p made.colour fits c.requires.on_board no_capture (λ d has stone. false≢true (sym new ∙ made.stood d p has c.requires.on_board stone))
