use Rattle.std.proofs.Common.{rules, subst, sym}
use Rattle.tt_game.specs.GameLaws.{IsWellFormedState}
use Rattle.tt_game.specs.Line.{LineWithUndo}
use Rattle.tt_game.proofs.SomeSide.{state_after}
use Rattle.tt_solve.proofs.solving.Solver.value_after_turn.Goals as goal

pub value_at-requires : goal.value_at-requires
value_at-requires g c =
    let next = c.in-Ok.next in
    let formed : IsWellFormedState next.frame next.state = subst (λ (l : LineWithUndo). IsWellFormedState l.frame l.state) (sym c.in-Ok.ensures)
    (state_after c.args.line.now.frame c.args.line.now.state c.args.turn c.requires.state c.requires.legal) in
    search (rules, formed)
