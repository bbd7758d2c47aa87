use Rattle.std.proofs.Common.{sym, arith}
use Rattle.tt_sgf.specs.laws.SizeLaws.{sized_returns_size, sized_is_none_outside}
use Rattle.tt_sgf.proofs.size.Size.new.Goals as goal

pub returns-then-rows-le-MOST_SIDE-clause-is : goal.returns-then-rows-le-MOST_SIDE-clause-is
returns-then-rows-le-MOST_SIDE-clause-is c = sym (sized_returns_size _)

pub returns-else-columns-ge1-clause-is : goal.returns-else-columns-ge1-clause-is
returns-else-columns-ge1-clause-is c = sym (sized_is_none_outside c.args.columns c.args.rows (λ h. grind arith))
