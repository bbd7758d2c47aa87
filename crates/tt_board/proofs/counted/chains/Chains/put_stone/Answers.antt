use Rattle.std.proofs.Common.{subst}
use Rattle.tt_board.specs.inside.Chains.{ChainBoard, AreNear}
use Rattle.tt_board.proofs.counted.chains.Chains.put_stone.Goals as goal

pub put_stone_by_names-requires-clause-near : goal.put_stone_by_names-requires-clause-near
put_stone_by_names-requires-clause-near c =
    subst (λ (v : ChainBoard). AreNear v.size v.counts.names c.args.p c.names_beside-near.result) c.self.view_is c.names_beside-near.ensures
