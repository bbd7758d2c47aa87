use Rattle.std.proofs.Common.{subst}
use Rattle.tt_board.specs.PlayKind.{IsPlayOfKind}
use Rattle.tt_board.specs.Setup.{AllHaveLiberties}
use Rattle.tt_board.specs.inside.Chains.{ChainBoard, AreNear}
use Rattle.tt_board.proofs.PlayLemmas.{alive-play}
use Rattle.tt_board.proofs.counted.chains.Chains.play_and_clear.Goals as goal

pub put_stone_by_names-requires-clause-near : goal.put_stone_by_names-requires-clause-near
put_stone_by_names-requires-clause-near c =
    subst (λ (v : ChainBoard). AreNear v.size v.counts.names c.args.p c.names_beside-near.result) c.self.view_is c.names_beside-near.ensures

pub put_stone_by_names-requires-clause-alive : goal.put_stone_by_names-requires-clause-alive
put_stone_by_names-requires-clause-alive c =
    let b = c.args.self.now in
    let near = subst (λ (v : ChainBoard). AreNear v.size v.counts.names c.args.p c.names_beside-near.result) c.self.view_is c.names_beside-near.ensures in
    let put = subst (λ g. IsPlayOfKind g b.size b.points c.args.colour c.args.p) c.in-NoCapture.is (c.play_kind_by_names.ensures c.args.p c.requires.on_board c.requires.free near) in
    subst (AllHaveLiberties b.size) put (alive-play b.size b.points c.args.colour c.args.p)
