use Rattle.std.proofs.Common.{rules, ◌≡◌, ◌<◌, ◌≤◌, length, get_or, Contains, refl, arith, sym, subst, ◌∙◌}
use Rattle.std.proofs.lemmas.Bool.{false≢true}
use Rattle.tt_proof.proofs.SharedLemmas.{shown_at, one_more_place, stands_in}
use Rattle.tt_proof.proofs.board_set.BoardSet.has_none_of.Goals as goal

pub loop-board-preserved : goal.loop-board-preserved
loop-board-preserved c =
    let boards = c.args.boards.now in
    let n = c.loop-board.board-index in
    let lt : n < length boards = search rules in
    let is : c.board-item.result ≡ get_or boards n c.board-item.result = search rules in
    one_more_place boards (λ x. Contains c.args.self.now x → ⊥) n c.board-item.result c.loop-board.invariant
    (shown_at boards boards n c.board-item.result refl lt is)
    (λ m. false≢true (sym c.if-has.false ∙ c.has.ensures.1 m))

pub returns-then-has : goal.returns-then-has
returns-then-has c =
    let boards = c.args.boards.now in
    let n = c.loop-board.board-index in
    let lt : n < length boards = search rules in
    let is : c.board-item.result ≡ get_or boards n c.board-item.result = search rules in (
      λ y. absurd (false≢true y),
      λ h. absurd (h c.board-item.result (c.has.ensures.0 c.if-has.true)
          (stands_in boards n c.board-item.result lt (shown_at boards boards n c.board-item.result refl lt is))),
    )

pub returns : goal.returns
returns c =
    let all : length c.args.boards.now ≤ c.loop-board.board-index = search rules in (
      λ y b m k. let lt = k.1 in c.loop-board.invariant k.0 b (omega (arith, lt, all)) (subst (λ x. Contains c.args.self.now x) (sym k.2) m),
      λ h. search rules,
    )
