use Rattle.std.proofs.Common.{◌∷◌, [], drop, map, Contains, sym, subst}
use Rattle.std.proofs.lemmas.List.Elements.{Contains-append_right}
use Rattle.tt_board.specs.inside.Boards.{board_of}
use Rattle.tt_board.specs.inside.Differences.{colourings_from}
use Rattle.tt_board.proofs.boards.board_deltas.BoardDeltas.has.Goals as goal

pub loop-next-preserved : goal.loop-next-preserved
loop-next-preserved c =
    let f = c.in-Some.ensures.next in
    let g = c.size-size.result in
    let next = c.apply_next.new.points in
    record {
      behind = f.inside;
      held = λ b m. c.loop-next.invariant.held b (subst (λ cs. Contains (map (board_of g) cs) b) (sym f.colourings)
          (Contains-append_right (board_of g next ∷ []) (map (board_of g) (colourings_from next (drop c.in-Some.next c.self.inside.steps))) b m));
    }
