use Rattle.std.proofs.Common.{rules, ◌≡◌, ◌++◌, ◌∷◌, [], ◌+◌, ◌-◌, ◌<◌, length, take, get_or, sym, ap, ◌∙◌, arith}
use Rattle.std.proofs.lemmas.List.{get_or_read, take_all, take_more}
use Rattle.std.specs.Arc.{arc_value}
use Rattle.tt_board.specs.Position.{Position}
use Rattle.tt_game.proofs.history.root.Root.of.Goals as goal

pub invariant_of-result : goal.invariant_of-result
invariant_of-result c =
    let bs = c.boards-boards.result.now in
    let n = length bs - 1 in
    let end = c.index-boards-boards.result in
    let some : 0 < length bs = c.boards-boards.ensures.some in
    let kept : c.in_ok-of.field-0 ≡ bs = search rules in
    let base : arc_value c.in_ok-base.base ≡ end = search rules in
    let read : end ≡ get_or bs n end = get_or_read bs n end (omega (arith, some)) c.index-boards-boards.is end in
    let all : bs ≡ take n bs ++ arc_value c.in_ok-base.base ∷ [] =
    sym (take_all (n + 1) bs (omega (arith, some))) ∙ take_more bs n end (omega (arith, some)) ∙ ap (λ (b : Position). take n bs ++ b ∷ []) (sym read ∙ sym base) in
    record {
      count = search rules;
      some_board = search rules;
      sizes = search rules;
      base = (take n bs, kept ∙ all);
      black = search rules;
      white = search rules;
      filter = search rules;
    }
