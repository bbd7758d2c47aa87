use Rattle.std.proofs.Common.{◌≡◌, ℕ, ◌<◌, List, [], ◌∷◌, Some, length, get_or, Contains, inl, inr, refl, sym, ap, subst, ◌∙◌, true, arith}
use Rattle.std.proofs.lemmas.Bool.{cases_eq, false≢true}
use Rattle.std.proofs.lemmas.List.{get_or-map, length-map, get_or_default}
use Rattle.tt_board.specs.declared.Colour.{Colour}
use Rattle.tt_board.specs.declared.Colour.TheVariants.{Black, White}
use Rattle.tt_board.specs.Position.{Position, Colouring}
use Rattle.tt_board.specs.Reach.{entry_at}
use Rattle.tt_board.specs.Play.{is_stone_of}
use Rattle.tt_game.specs.GameHistory.{colourings}
use Rattle.tt_game.proofs.history.stone_stood.Goals as goal

-- a stone is of its colour
own : (k : Colour) → is_stone_of (Some k) k ≡ true
own Black = refl
own White = refl

-- no board with such a stone: no colouring of them has it
none : (bs : List Position) (c : Colouring) (p : ℕ) (k : Colour) → ((j : ℕ) (d : Position) → j < length bs → entry_at (get_or bs j d).points p ≡ Some k → ⊥)
    → Contains (colourings bs) c → entry_at c p ≡ Some k → ⊥
none [] c p k each (j, in', e) stone = omega (arith, in')
none (b ∷ bs) c p k each (j, in', e) stone =
    let lt : j < length (b ∷ bs) = subst (λ n. j < n) (length-map (b ∷ bs) (λ x. x.points)) in' in
    let is : (get_or (b ∷ bs) j b).points ≡ c = sym (get_or-map (λ x. x.points) (b ∷ bs) j b b.points lt) ∙ get_or_default (colourings (b ∷ bs)) j b.points c in' ∙ e in
    each j b lt (ap (λ x. entry_at x p) is ∙ stone)

pub returns : goal.returns
returns c = λ col has stone. absurd (none c.args.boards.now col c.args.p c.args.colour (λ j d lt. c.loop-board.invariant j d (omega (arith, lt, c.loop-board-test.false))) has stone)

pub loop-board-preserved : goal.loop-board-preserved
loop-board-preserved c = λ k d lt stone. elim (cases_eq k c.loop-board.board-index) [
  | inl same ↦
      let here : c.board-item.result ≡ get_or c.args.boards.now k d =
      c.board-item.is ∙ get_or_default c.args.boards.now c.loop-board.board-index c.board-item.result d c.loop-board-test.true ∙ ap (λ j. get_or c.args.boards.now j d) (sym same) in
      false≢true (sym c.if-has_stone_of.false ∙ c.has_stone_of.ensures ∙ ap (λ (b : Position). is_stone_of (entry_at b.points c.args.p) c.args.colour) here
      ∙ ap (λ e. is_stone_of e c.args.colour) stone ∙ own c.args.colour)
  | inr apart ↦ c.loop-board.invariant k d (omega (arith, lt, apart)) stone
]
