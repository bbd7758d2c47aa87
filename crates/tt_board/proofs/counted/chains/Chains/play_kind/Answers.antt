use Rattle.std.proofs.Common.{subst}
use Rattle.tt_board.specs.inside.Chains.{ChainBoard, AreNear}
use Rattle.tt_board.proofs.counted.chains.Chains.play_kind.Goals as goal

pub returns-clause-kind : goal.returns-clause-kind
returns-clause-kind c =
    c.play_kind_by_names.ensures c.args.p c.requires.on_board c.requires.free
    (subst (λ (v : ChainBoard). AreNear v.size v.counts.names c.args.p c.names_beside-near.result) c.self.view_is c.names_beside-near.ensures)
