use Rattle.std.proofs.Common.{◌≡◌, ◌<◌, length, get_or, inl, inr, sym, ap, subst, ◌∙◌, arith}
use Rattle.std.proofs.lemmas.Bool.{cases_eq}
use Rattle.std.proofs.lemmas.List.{get_or_default}
use Rattle.tt_sgf.specs.declared.size.Size.{Size}
use Rattle.tt_board.specs.Position.{Position, Colouring}
use Rattle.tt_game.specs.BloomFilter.{MayHold, filter_index}
use Rattle.tt_game.proofs.GameHistoryLemmas.{been_at}
use Rattle.tt_game.proofs.history.bloom_filter.BloomFilter.of_boards.Goals as goal

pub returns : goal.returns
returns c = λ g sizes col has.
    let bs = c.args.boards.now in
    let at = been_at bs col has in
    let j = at.0 in let b = at.1 in
    let lt : j < length bs = at.2 in
    let filter = c.loop-board.invariant j b (omega (arith, lt, c.loop-board-test.false)) in
    let sized = subst (λ (x : Size). MayHold c.loop-board.filter (filter_index x (get_or bs j b).points)) (sizes j b lt) filter in
    subst (λ (x : Colouring). MayHold c.loop-board.filter (filter_index g x)) (ap (λ (x : Position). x.points) (at.3 b) ∙ at.4) sized

pub loop-board-preserved : goal.loop-board-preserved
loop-board-preserved c = λ k b lt.
    let bs = c.args.boards.now in
    elim (cases_eq k c.loop-board.board-index) [
      | inl same ↦
          let here : c.board-item.result ≡ get_or bs k b =
          c.board-item.is ∙ get_or_default bs c.loop-board.board-index c.board-item.result b c.loop-board-test.true ∙ ap (λ j. get_or bs j b) (sym same) in
          let item = c.board-item.result in
          let noted : MayHold c.add.new.self (filter_index item.size item.points) = subst (MayHold c.add.new.self) c.filter_index.ensures c.add.ensures.here in
          subst (λ (x : Position). MayHold c.add.new.self (filter_index x.size x.points)) here noted
      | inr apart ↦ c.add.ensures.still (filter_index (get_or bs k b).size (get_or bs k b).points) (c.loop-board.invariant k b (omega (arith, lt, apart)))
    ]
