use Rattle.std.proofs.Common.{rules}
use Rattle.tt_sgf.proofs.BitLemmas.{on_same, on_others}
use Rattle.tt_sgf.proofs.bits.Bits.set.Goals as goal

pub returns-clause-same : goal.returns-clause-same
returns-clause-same c = on_same c.args.self.now.words c.args.n c.requires (search rules)

pub returns-clause-others : goal.returns-clause-others
returns-clause-others c = λ q small apart. on_others c.args.self.now.words c.args.n c.requires (search rules) q apart
