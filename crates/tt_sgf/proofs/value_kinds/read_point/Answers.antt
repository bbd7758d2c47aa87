use Rattle.tt_sgf.proofs.PointLemmas.{point_of-empty, point_of-letter, point_of-long}
use Rattle.tt_sgf.proofs.value_kinds.read_point.Goals as goal

pub returns-in-empty : goal.returns-in-empty
returns-in-empty c = point_of-empty c.args.size c.args.text.now c.in-empty.len_below

pub returns-in-len1 : goal.returns-in-len1
returns-in-len1 c = point_of-letter c.args.size c.args.text.now c.in-len1.len_at_least c.in-len1.len_below

pub returns-in-len3-up : goal.returns-in-len3-up
returns-in-len3-up c = point_of-long c.args.size c.args.text.now c.in-len3-up.len_at_least
