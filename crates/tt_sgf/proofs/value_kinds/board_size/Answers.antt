use Rattle.std.proofs.Common.{sym, ◌∙◌}
use Rattle.tt_sgf.proofs.SizeLemmas.{size_takes, size_again}
use Rattle.tt_sgf.proofs.value_kinds.board_size.Goals as goal

pub returns-clause-value : goal.returns-clause-value
returns-clause-value c = λ s. ((λ h. size_takes c.args.bytes.now s (sym c.read_size.ensures ∙ h)), λ h. c.read_size.ensures ∙ size_again c.args.bytes.now s h)
