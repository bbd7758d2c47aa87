use Rattle.std.proofs.Common.{◌∙◌, sym, ap}
use Rattle.tt_proof.specs.Strategy.{reply, entries_of}
use Rattle.tt_proof.proofs.StrategyLemmas.{entries_map}
use Rattle.tt_proof.proofs.measured_tree.ReplyBuilder.into_measured_tree.Goals as goal

pub returns : goal.returns
returns c = c.in_ok-tree.ensures ∙ ap reply (sym (entries_map c.self.inside.entries.items) ∙ ap entries_of c.self.view_is)
