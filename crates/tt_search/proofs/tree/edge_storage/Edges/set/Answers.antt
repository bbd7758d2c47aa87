use Rattle.std.proofs.Common.{arith}
use Rattle.std.proofs.Math.Seq.{take-set-lt}
use Rattle.std.proofs.lemmas.List.{length-take-le}
use Rattle.tt_search.proofs.tree.edge_storage.Edges.set.Goals as goal

-- src/tree/edge_storage.rt:96:5
pub returns-in-Short : goal.returns-in-Short
returns-in-Short c = grind (arith, take-set-lt, length-take-le)
