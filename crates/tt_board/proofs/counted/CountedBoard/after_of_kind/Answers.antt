use Rattle.std.proofs.Common.{length, sym, subst, ◌∙◌, ap}
use Rattle.tt_sgf.specs.Sizes.{point_count}
use Rattle.tt_board.specs.Setup.{AllHaveLiberties}
use Rattle.tt_board.proofs.PlayLemmas.{length-play, alive-play}
use Rattle.tt_board.proofs.counted.CountedBoard.after_of_kind.Goals as goal

pub from_colouring-requires-clause-fits : goal.from_colouring-requires-clause-fits
from_colouring-requires-clause-fits c =
    let b = c.self.inside.chains in
    ap length c.colouring_after-points.ensures ∙ length-play b.size b.points c.args.colour _ ∙ sym (ap point_count c.size.ensures)

pub from_colouring-requires-clause-alive : goal.from_colouring-requires-clause-alive
from_colouring-requires-clause-alive c =
    let b = c.self.inside.chains in let made = c.colouring_after-points.result in
    subst (λ s. AllHaveLiberties s made) (sym c.size.ensures)
    (subst (AllHaveLiberties b.size) (sym c.colouring_after-points.ensures) (alive-play b.size b.points c.args.colour _))
