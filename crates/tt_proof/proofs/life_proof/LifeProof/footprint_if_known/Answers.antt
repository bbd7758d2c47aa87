use Rattle.std.proofs.Common.{◌≡◌, ◌-◌, All, Contains, length, take, drop, subst, ◌∙◌, ap}
use Rattle.std.proofs.lemmas.List.{take_rest}
use Rattle.tt_board.specs.Position.{Position}
use Rattle.tt_game.specs.Game.{history}
use Rattle.tt_proof.specs.BoardSetBounds.{MayContainBoard}
use Rattle.tt_proof.specs.EndRules.{at_win, at_win_or_life}
use Rattle.tt_proof.specs.ProofClaim.{ProofClaim, IsWinningTreeUnder}
use Rattle.tt_proof.specs.KeptFootprints.{IsFootprint}
use Rattle.tt_proof.proofs.FittingLemmas.{won_where_fits}
use Rattle.tt_proof.proofs.TakenLemmas.{footprint_taken}
use Rattle.tt_proof.proofs.life_proof.LifeProof.footprint_if_known.Goals as goal

pub returns-then-are_outside_or_in_snapshot-clause-exact : goal.returns-then-are_outside_or_in_snapshot-clause-exact
returns-then-are_outside_or_in_snapshot-clause-exact c =
    let p = c.args.self.now in
    let line = c.args.line.now in
    let own = c.self.inside.footprint in
    let boards = c.history in
    let n = c.known_common_history_length.result in
    let behind : take (length boards.result.now - n) (drop n boards.result.now) ≡ drop n boards.result.now = take_rest boards.result.now n in
    let known : All (λ (b : Position). MayContainBoard own.met b → Contains (history c.self.inside.snapshot.state) b.points)
    (take (length (drop n boards.result.now) - 1) (drop n boards.result.now)) =
    subst (λ bs. All (λ (b : Position). MayContainBoard own.met b → Contains (history c.self.inside.snapshot.state) b.points) (take (length bs - 1) bs)) behind
    (rw (← c.saturating_sub.ensures) (c.are_outside_or_in_snapshot.ensures c.if-are_outside_or_in_snapshot.true)) in
    let low = subst (λ (q : ProofClaim). All (λ (b : Position). MayContainBoard own.met b → Contains (history q.state) b.points)
    (take (length (drop n boards.result.now) - 1) (drop n boards.result.now))) c.self.view_is known in
    let alike : take n (history line.state) ≡ take n (history p.state) =
    c.known_common_history_length.ensures.alike ∙ ap (λ (q : ProofClaim). take n (history q.state)) c.self.view_is in
    let won = subst (λ (q : ProofClaim). IsWinningTreeUnder at_win_or_life q.side q.frame q.state q.tree) c.self.view_is c.self.invariant.0.won in
    let foot = subst (λ (q : ProofClaim). IsFootprint q.frame q.state q.tree own) c.self.view_is c.self.invariant.0.footprint in
    footprint_taken p line.frame line.state own boards.result.now boards.ensures.colourings boards.ensures.sizes n
    alike low at_win_or_life won (c.fits.ensures.0 c.if-fits.true) foot

pub returns-then-are_outside_or_in_snapshot-clause-wins : goal.returns-then-are_outside_or_in_snapshot-clause-wins
returns-then-are_outside_or_in_snapshot-clause-wins c =
    let won = subst (λ (q : ProofClaim). IsWinningTreeUnder at_win_or_life q.side q.frame q.state q.tree) c.self.view_is c.self.invariant.0.won in
    won_where_fits at_win_or_life _ _ _ won (c.fits.ensures.0 c.if-fits.true)

pub returns-then-are_outside_or_in_snapshot-clause-at_wins : goal.returns-then-are_outside_or_in_snapshot-clause-at_wins
returns-then-are_outside_or_in_snapshot-clause-at_wins c = λ won. won_where_fits at_win _ _ _ won (c.fits.ensures.0 c.if-fits.true)
