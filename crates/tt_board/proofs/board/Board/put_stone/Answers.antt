use Rattle.std.proofs.Common.{rules, ◌≡◌, length, set, Some, sym, ap, subst, ◌∙◌}
use Rattle.tt_board.specs.Position.{Position}
use Rattle.tt_board.specs.Play.{play_of}
use Rattle.tt_board.specs.Setup.{AllHaveLiberties}
use Rattle.tt_board.proofs.PlayLemmas.{length-play, alive-play}
use Rattle.tt_board.proofs.board.Board.put_stone.Goals as goal

pub invariant_of-self : goal.invariant_of-self
invariant_of-self c =
    let b = c.self.inside in let k = c.args.colour in let p = c.args.p in
    let no_capture : play_of b.size b.points k p ≡ set b.points p (Some k) =
    subst (λ (v : Position). play_of v.size v.points k p ≡ set v.points p (Some k)) (sym c.self.view_is) c.requires.no_capture in
    let index : c.from.result ≡ p = search rules in
    let made : c.set.new.self ≡ play_of b.size b.points k p = c.set.ensures ∙ ap (λ q. set b.points q (Some k)) index ∙ sym no_capture in
    (ap length made ∙ length-play b.size b.points k p, subst (AllHaveLiberties b.size) (sym made) (alive-play b.size b.points k p))
