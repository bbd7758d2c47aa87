use Rattle.std.proofs.Common.{Option, Some, None, MatchOption, sym, subst}
use Rattle.tt_board.specs.declared.Colour.TheVariants.{Black, White}
use Rattle.tt_board.specs.Setup.{IsLeastWithoutLiberty}
use Rattle.tt_board.specs.Around.{AreReaching}
use Rattle.tt_board.proofs.FillLemmas.{stones_on, stones_those, least_lifeless, none_lifeless}
use Rattle.tt_board.proofs.setup.first_without_liberty.Goals as goal

-- what follows of an answer by its cases
by_cases : {X : Type 0} (r : Option X) {A A' : Type 0} {B B' : X → Type 0} → (A → A') → ((x : X) → B x → B' x) → MatchOption r A B → MatchOption r A' B'
by_cases None f g h = f h
by_cases (Some x) f g h = g x h

pub reaching-black_alive-requires-clause-own_on_board : goal.reaching-black_alive-requires-clause-own_on_board
reaching-black_alive-requires-clause-own_on_board c = stones_on c.args.size c.args.points.now c.requires Black c.bits-black.result.now.words c.bits-black.ensures

pub reaching-white_alive-requires-clause-own_on_board : goal.reaching-white_alive-requires-clause-own_on_board
reaching-white_alive-requires-clause-own_on_board c = stones_on c.args.size c.args.points.now c.requires White c.bits-white.result.now.words c.bits-white.ensures

pub returns : goal.returns
returns c =
    let s = c.args.size in let points = c.args.points.now in
    let blacks = stones_those s points c.requires Black c.bits-black.result.now.words c.bits-black.ensures in
    let whites = stones_those s points c.requires White c.bits-white.result.now.words c.bits-white.ensures in
    let empties = c.empty_points-empty.ensures.those in
    let blacks_reach : AreReaching s c.reaching-black_alive.result.words points (Some Black) None = c.reaching-black_alive.ensures.reaching points (Some Black) None (λ e. cc) blacks empties in
    let whites_reach : AreReaching s c.reaching-white_alive.result.words points (Some White) None = c.reaching-white_alive.ensures.reaching points (Some White) None (λ e. cc) whites empties in
    by_cases c.point.result
    (none_lifeless s points c.requires c.bits-black.result.now.words c.bits-white.result.now.words c.reaching-black_alive.result.words c.reaching-white_alive.result.words
    c.minus.result.words c.minus-2.result.words c.or-lifeless.result.words blacks whites blacks_reach whites_reach c.minus.ensures c.minus-2.ensures c.or-lifeless.ensures
    c.first_from.result c.first_from.ensures.none)
    (λ p is. subst (IsLeastWithoutLiberty s points) (sym is.0)
    (least_lifeless s points c.requires c.bits-black.result.now.words c.bits-white.result.now.words c.reaching-black_alive.result.words c.reaching-white_alive.result.words
    c.minus.result.words c.minus-2.result.words c.or-lifeless.result.words blacks whites blacks_reach whites_reach c.minus.ensures c.minus-2.ensures c.or-lifeless.ensures
    c.first_from.result c.first_from.ensures.none c.first_from.ensures.found is.1))
    c.point.ensures
