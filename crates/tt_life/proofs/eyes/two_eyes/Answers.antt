use Rattle.std.proofs.Common.{◌≡◌, ℕ, ◌<◌, true, sym, ap, subst, ◌∙◌, arith}
use Rattle.std.specs.FinSet as set
use Rattle.tt_sgf.specs.Sizes.{point_count}
use Rattle.tt_sgf.specs.laws.SizeLaws.{point_count_is_bounded}
use Rattle.tt_board.specs.Position.{Colouring}
use Rattle.tt_game.specs.declared.frame.Frame.{Frame}
use Rattle.tt_life.specs.Life.{AreEyesOfTarget}
use Rattle.tt_life.proofs.LinkedLemmas.{in_points, points_on_board}
use Rattle.tt_life.proofs.LinkedSetLemmas.{small}
use Rattle.tt_life.proofs.GroundLemmas.{own_stones}
use Rattle.tt_life.proofs.AliveLemmas.{eyes_of_target}
use Rattle.tt_life.proofs.eyes.two_eyes.Goals as goal

pub linked_to-chain-requires-clause-mine : goal.linked_to-chain-requires-clause-mine
linked_to-chain-requires-clause-mine c =
    let in_p : c.first_from-target.result < point_count c.frame-frame.result.now.size = omega (arith, c.if-target-point_count.false, c.point_count.ensures.value) in
    in_points c.frame-frame.result.now.size c.eliminate-stones.result.words c.first_from-target.result in_p (sym c.has.ensures ∙ c.if-not-has.false)

pub point_numbered-requires : goal.point_numbered-requires
point_numbered-requires c = points_on_board c.frame-frame.result.now.size c.ground_of-ground.result.empty.words c.in_ok-one.one c.in_ok-one.ensures.0.0

pub point_numbered-requires-2 : goal.point_numbered-requires-2
point_numbered-requires-2 c = points_on_board c.frame-frame.result.now.size c.ground_of-ground.result.empty.words c.in_ok-one.other c.in_ok-one.ensures.1.0

pub returns-clause-eyes : goal.returns-clause-eyes
returns-clause-eyes c =
    let f = c.frame-frame.result.now in let b = c.present-board.result.now in let left = c.eliminate-stones.result.words in let target = c.first_from-target.result in
    let same : b.size ≡ f.size = c.present-board.ensures.size ∙ sym (ap (λ (x : Frame). x.size) c.frame-frame.ensures.value) in
    let own = own_stones f b.points (point_count b.size) (ap point_count same) c.bits.result.now.words c.bits.ensures in
    let most = c.eliminate-stones.ensures.most b.points c.ground_of-ground.ensures.ground own in
    let in_p : target < point_count f.size = omega (arith, c.if-target-point_count.false, c.point_count.ensures.value) in
    let lt = small f.size target in_p in
    let stands = in_points f.size left target in_p (sym c.has.ensures ∙ c.if-not-has.false) in
    let is_target : set.contains f.targets target ≡ true =
    sym (c.bits-2.ensures.below target (omega (arith, in_p, point_count_is_bounded f.size)) lt) ∙ c.first_from-target.ensures.found lt in
    let one = c.in_ok-one.one in let other = c.in_ok-one.other in
    let made = eyes_of_target f b.points c.ground_of-ground.result c.ground_of-ground.ensures.ground c.ground_of-ground.ensures.sound left c.linked_to-chain.result.words
    c.adjacent_points-near.result.words (λ q h. own q (most.within q h)) target c.linked_to-chain.ensures.linked c.adjacent_points-near.ensures c.bits.result.now.words most stands is_target
    one other c.in_ok-one.ensures in
    let here = subst (λ (x : Colouring). AreEyesOfTarget f x one other) c.present-board.ensures.points made in
    let there = subst (λ (x : Frame). AreEyesOfTarget x c.args.line.now.state.present one other) c.frame-frame.ensures.value here in
    subst (λ (x : ℕ). AreEyesOfTarget c.args.line.now.frame c.args.line.now.state.present c.point_numbered.result x) (sym c.point_numbered-2.ensures.value)
    (subst (λ (x : ℕ). AreEyesOfTarget c.args.line.now.frame c.args.line.now.state.present x other) (sym c.point_numbered.ensures.value) there)
