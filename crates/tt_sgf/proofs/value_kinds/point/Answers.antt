use Rattle.std.proofs.Common.{ap, sym, ◌∙◌}
use Rattle.tt_sgf.specs.Values.{point_of}
use Rattle.tt_sgf.proofs.PointLemmas.{point_takes, point_again}
use Rattle.tt_sgf.proofs.value_kinds.point.Goals as goal

pub returns-clause-value : goal.returns-clause-value
returns-clause-value c = λ q.
    let is = c.read_point.ensures ∙ ap (point_of c.args.size) c.trim.ensures in
    ((λ h. point_takes c.args.size c.args.bytes.now q (sym is ∙ h)), λ h. is ∙ point_again c.args.size c.args.bytes.now q h)
