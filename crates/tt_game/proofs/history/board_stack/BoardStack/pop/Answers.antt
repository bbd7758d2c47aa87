use Rattle.std.proofs.Common.{◌-◌, ◌<◌, ◌∷◌, length, take, reverse, sym, ap, subst, ◌∙◌, arith}
use Rattle.std.specs.Arc.{arc_value}
use Rattle.tt_game.specs.inside.Undoing.{Stack}
use Rattle.tt_game.proofs.BoardStackLemmas.{below_more, some_live}
use Rattle.tt_game.proofs.history.board_stack.BoardStack.pop.Goals as goal

pub returns : goal.returns
returns c =
    let i = c.self.inside in let bs = i.later.items in
    let some : 0 < i.count = some_live (arc_value i.first) bs i.count (subst (λ (s : Stack). 0 < length s.below) (sym c.self.view_is) c.requires) in
    ap (λ (s : Stack). s.below) (sym c.self.view_is) ∙ ap (λ n. reverse (take n ((arc_value i.first) ∷ bs))) (omega (arith, some))
    ∙ below_more (arc_value i.first) bs (i.count - 1) (omega (arith, c.self.invariant))
