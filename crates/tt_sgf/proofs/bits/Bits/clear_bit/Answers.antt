use Rattle.std.proofs.Common.{rules}
use Rattle.tt_sgf.proofs.BitLemmas.{off_same, off_others}
use Rattle.tt_sgf.proofs.bits.Bits.clear_bit.Goals as goal

pub returns-clause-same : goal.returns-clause-same
returns-clause-same c = off_same c.args.self.now.words c.args.n c.requires (search rules)

pub returns-clause-others : goal.returns-clause-others
returns-clause-others c = λ q small apart. off_others c.args.self.now.words c.args.n c.requires (search rules) q apart
