use Rattle.std.proofs.Common.{sym, ◌∙◌}
use Rattle.tt_sgf.proofs.NumberLemmas.{number_takes, number_again}
use Rattle.tt_sgf.proofs.value_kinds.number.Goals as goal

pub returns-clause-value : goal.returns-clause-value
returns-clause-value c = λ n. ((λ h. number_takes c.args.bytes.now n (sym c.read_number.ensures ∙ h)), λ h. c.read_number.ensures ∙ number_again c.args.bytes.now n h)
