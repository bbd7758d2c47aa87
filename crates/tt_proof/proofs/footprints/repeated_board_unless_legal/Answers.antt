use Rattle.std.proofs.Common.{subst}
use Rattle.std.specs.Bool.{IsTrue}
use Rattle.tt_proof.proofs.footprints.repeated_board_unless_legal.Goals as goal

pub returns-then-has : goal.returns-then-has
returns-then-has c = λ barred. (c.requires c.args.p (subst IsTrue c.has.ensures c.if-has.true)).4 barred.3
