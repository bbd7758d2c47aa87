use Rattle.std.proofs.Common.{arith}
use Rattle.tt_game.specs.declared.turns.Turn.TheVariants.{Pass}
use Rattle.tt_share.proofs.jobs.Jobs.of.Goals as goal

-- a pass is a legal turn
pub invariant_of-result-clause-few : goal.invariant_of-result-clause-few
invariant_of-result-clause-few c =
    let pass = (c.turns-turns.ensures.legal Pass).1 c.requires.open in
    (omega (arith, pass.1), c.turns-turns.ensures.few)
