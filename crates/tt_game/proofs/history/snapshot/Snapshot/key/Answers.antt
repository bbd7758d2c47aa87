use Rattle.std.proofs.Common.{◌≡◌, ap, ◌∙◌}
use Rattle.tt_game.specs.Line.{SnapshotState}
use Rattle.tt_game.specs.inside.Roots.{Rooted}
use Rattle.tt_game.proofs.KeyLemmas.{key_told}
use Rattle.tt_game.proofs.history.snapshot.Snapshot.key.Goals as goal

pub returns : goal.returns
returns c =
    let is = c.self.view_is in
    let frame : c.frame.result.now ≡ c.args.self.now.frame = c.frame.ensures ∙ ap (λ (r : Rooted). r.frame) c.deref.ensures ∙ ap (λ (p : SnapshotState). p.frame) is in
    c.key_from_parts.ensures ∙ key_told _ _ _ _ frame c.present.ensures.points (ap (λ (p : SnapshotState). p.state.to_move) is) (ap (λ (p : SnapshotState). p.state.passes) is)
