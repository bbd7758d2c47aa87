use Rattle.std.proofs.lemmas.Bool.{eq-eqb, eqb-true}
use Rattle.tsumego_show.proofs.ReadBack.{starts_there}
use Rattle.tsumego_show.proofs.reading_back.is_one_tree.Goals as goal

pub returns-else-text-eq40 : goal.returns-else-text-eq40
returns-else-text-eq40 c = λ t ends. (
  λ yes. absurd (c.if-text-eq40.false (eqb-true _ 40 yes)),
  λ both. eq-eqb _ _ (starts_there c.args.text.now c.args.used t ends both.0),
)
