use Rattle.std.proofs.Common.{sym, subst}
use Rattle.tt_game.specs.Line.{LineWithUndo}
use Rattle.tt_proof.specs.ProofClaim.{IsWinningTree}
use Rattle.tt_search.proofs.Strategies.{makes_proof}
use Rattle.tt_search.proofs.tree.node.Node.proof.Goals as goal

pub from_known_win-requires-clause-wins : goal.from_known_win-requires-clause-wins
from_known_win-requires-clause-wins c =
    let won = makes_proof c.args.side c.args.line.now.frame c.args.line.now.state c.args.self.now c.in_ok-measured_tree.measured_tree c.in_ok-measured_tree.ensures
    c.requires.settled c.requires.partial c.requires.stays in
    subst (λ (l : LineWithUndo). IsWinningTree c.args.side l.frame l.state c.in_ok-measured_tree.measured_tree) (sym c.in_ok-footprint.ensures.same) won
