use Rattle.std.proofs.Common.{rules, ap}
use Rattle.tt_game.specs.Line.{SnapshotState}
use Rattle.tt_proof.specs.EndRules.{at_win, at_win_or_life}
use Rattle.tt_proof.proofs.ProvenLemmas.{won_done}
use Rattle.tt_proof.proofs.life_proof.LifeProof.done.Goals as goal

pub invariant_of-result : goal.invariant_of-result
invariant_of-result c =
    let own = c.in_ok-snapshot.ensures in
    let frame = ap (λ (l : SnapshotState). l.frame) own in
    let state = ap (λ (l : SnapshotState). l.state) own in
    rw c.done.ensures (
      record { won = won_done at_win_or_life _ c.args.line.now.frame _ c.args.line.now.state _ frame state c.requires; footprint = c.empty.ensures _ _ },
      λ e. won_done at_win _ c.args.line.now.frame _ c.args.line.now.state _ frame state (search rules),
    )

pub returns : goal.returns
returns c =
    let own = c.in_ok-snapshot.ensures in
    ((ap (λ (l : SnapshotState). l.frame) own, ap (λ (l : SnapshotState). l.state) own), search rules, c.done.ensures)
