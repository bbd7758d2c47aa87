use Rattle.std.proofs.Common.{sym, ◌∙◌}
use Rattle.tt_game.specs.laws.KeyLaws.{same_key_implies_equal, equal_implies_same_key}
use Rattle.tt_game.proofs.keys.Key.same.Goals as goal

pub returns : goal.returns
returns c = (
  λ same. same_key_implies_equal c.args.self.now c.args.other.now (sym c.eq.ensures ∙ same),
  λ same. c.eq.ensures ∙ equal_implies_same_key c.args.self.now c.args.other.now same,
)
