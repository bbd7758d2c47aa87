use Rattle.std.proofs.Common.{◌∙◌, ap, sym, subst}
use Rattle.std.specs.FinSet as set
use Rattle.std.specs.Ordering.{nat_cmp}
use Rattle.tt_game.specs.Game.{IsLegal}
use Rattle.tt_proof.specs.KeptFootprints.{AreLegalPlays}
use Rattle.tt_search.proofs.LegalPlays.{legal_at, legal_with}
use Rattle.tt_search.proofs.footprints.points_of_plays.Goals.{in-Play, in_default}
use Rattle.tt_search.proofs.footprints.points_of_plays.Goals as goal

pub loop-edge-init : goal.loop-edge-init
loop-edge-init c = λ f s legal p there. absurd (cc (there, ap (λ points. set.contains points p) c.empty-points.ensures, set.contains-empty nat_cmp p))

pub loop-edge-preserved : goal.loop-edge-preserved
loop-edge-preserved c = λ f s legal. elim c.match-turn.branch [
  | in-Play w ↦
      let one = subst (IsLegal f s) (sym c.turn.ensures ∙ w.in-Play.is) (legal_at f s c.args.edges.now c.loop-edge.edge-index _ legal c.loop-edge-test.true) in
      subst (AreLegalPlays f s) (sym (w.points-is ∙ w.with-points.ensures)) (legal_with f s c.loop-edge.points w.in-Play.p (c.loop-edge.invariant f s legal) one)
  | in_default w ↦ subst (AreLegalPlays f s) (sym w.points-is) (c.loop-edge.invariant f s legal)
]
