use Rattle.std.proofs.Common.{rules, ◌≡◌, length, sym, subst}
use Rattle.tt_board.specs.declared.Colour.{Colour}
use Rattle.tt_board.specs.declared.Colour.TheVariants.{Black, White}
use Rattle.tt_board.specs.Reach.{entry_at}
use Rattle.tt_board.specs.Play.{is_stone_of}
use Rattle.tt_sgf.specs.MachineWords.{AreBitsOf}
use Rattle.tt_board.proofs.PlaneLemmas.{blacks_handed, whites_handed}
use Rattle.tt_board.proofs.colouring.Colouring.bits.Goals as goal

pub returns-in-Black : goal.returns-in-Black
returns-in-Black c =
    let i = c.self.inside in let own = c.args.self.now in
    let colour : c.args.colour ≡ Black = search rules in
    subst (λ (k : Colour). AreBitsOf i.black.words (length own) (λ p. is_stone_of (entry_at own p) k)) (sym colour)
    (blacks_handed i.count i.black.words i.white.words own c.self.view_is c.self.invariant)

pub returns-in-White : goal.returns-in-White
returns-in-White c =
    let i = c.self.inside in let own = c.args.self.now in
    let colour : c.args.colour ≡ White = search rules in
    subst (λ (k : Colour). AreBitsOf i.white.words (length own) (λ p. is_stone_of (entry_at own p) k)) (sym colour)
    (whites_handed i.count i.black.words i.white.words own c.self.view_is c.self.invariant)
