use Rattle.std.proofs.Common.{◌≡◌, ℕ, ◌-◌, ◌<◌, List, length, get_or, Contains, refl, sym, ap, subst, ◌∙◌, arith}
use Rattle.std.proofs.lemmas.Bool.{false≢true}
use Rattle.std.proofs.lemmas.List.{get_or-map, get_or_default, length-map}
use Rattle.tt_board.specs.Position.{Position}
use Rattle.tt_game.specs.GameHistory.{colourings}
use Rattle.tt_game.proofs.history.repeats.Goals as goal

-- no board with the next one's colouring: it isn't in the history
none : (bs : List Position) (next : Position) → ((k : ℕ) → k < length bs → (get_or bs k next).points ≡ next.points → ⊥) → Contains (colourings bs) next.points → ⊥
none bs next each (k, in', e) =
    let lt : k < length bs = subst (λ n. k < n) (length-map bs (λ b. b.points)) in' in
    each k lt (sym (get_or-map (λ b. b.points) bs k next next.points lt) ∙ e)

pub returns : goal.returns
returns c = (λ no. absurd (false≢true no), λ has. absurd (none c.args.boards.now c.args.next.now (λ k h. c.loop-k.invariant k h (omega arith)) has))

pub returns-then-same : goal.returns-then-same
returns-then-same c =
    let bs = c.args.boards.now in let next = c.args.next.now in let board = c.index-boards-boards.result in
    let j = length bs - 1 - c.loop-k.k in
    let lt : j < length bs = omega (arith, c.loop-k-test.true) in
    let is : get_or bs j next ≡ next = get_or_default bs j next board lt ∙ sym c.index-boards-boards.is ∙ c.same.ensures.0 c.if-same.true in
    let shown : get_or (colourings bs) j next.points ≡ next.points = get_or-map (λ (b : Position). b.points) bs j next next.points lt ∙ ap (λ (b : Position). b.points) is in
    (λ _. (j, subst (λ n. j < n) (sym (length-map bs (λ b. b.points))) lt, shown), λ _. refl)
