use Rattle.std.proofs.Common.{rules, ◌≡◌, ◌<◌, ◌≤◌, length, get_or, IsTrue, false, sym, ◌∙◌, subst, ap, arith}
use Rattle.std.proofs.lemmas.Bool.{false≢true}
use Rattle.tt_game.specs.Line.{HasBoardInHistory}
use Rattle.tt_proof.proofs.SharedLemmas.{shown_at, one_more_place, stands_in}
use Rattle.tt_proof.proofs.board_set.BoardSet.all_in_history.Goals as goal

pub loop-held-preserved : goal.loop-held-preserved
loop-held-preserved c =
    let items = c.self.inside.boards.items in
    let line = c.args.line.now in
    let n = c.loop-held.held-index in
    let lt : n < length items = search rules in
    let is : c.held-item.result ≡ get_or items n c.held-item.result = search rules in
    let shows : c.board.result.now ≡ c.held-item.result = search rules in
    let has : IsTrue c.has_board_in_history.result = search rules in
    one_more_place c.args.self.now (λ x. HasBoardInHistory line.frame line.state x) n c.held-item.result c.loop-held.invariant
    (shown_at items c.args.self.now n c.held-item.result c.self.view_is lt is)
    (subst (λ x. HasBoardInHistory line.frame line.state x) shows (c.has_board_in_history.ensures.0 has))

pub returns-then-not-has_board_in_history : goal.returns-then-not-has_board_in_history
returns-then-not-has_board_in_history c =
    let items = c.self.inside.boards.items in
    let line = c.args.line.now in
    let n = c.loop-held.held-index in
    let lt : n < length items = search rules in
    let long = ap length c.self.view_is in
    let is : c.held-item.result ≡ get_or items n c.held-item.result = search rules in
    let shows : c.board.result.now ≡ c.held-item.result = search rules in
    let off : c.has_board_in_history.result ≡ false = search rules in
    let there = stands_in c.args.self.now n c.held-item.result (omega (arith, lt, long)) (shown_at items c.args.self.now n c.held-item.result c.self.view_is lt is) in (
      λ y. absurd (false≢true y),
      λ h. absurd (false≢true (sym off ∙ c.has_board_in_history.ensures.1 (subst (λ x. HasBoardInHistory line.frame line.state x) (sym shows) (h c.held-item.result there)))),
    )

pub returns : goal.returns
returns c =
    let items = c.self.inside.boards.items in
    let line = c.args.line.now in
    let all : length items ≤ c.loop-held.held-index = search rules in
    let long = ap length c.self.view_is in (
      λ yes b m. let lt = m.1 in subst (λ x. HasBoardInHistory line.frame line.state x) m.2 (c.loop-held.invariant m.0 b (omega (arith, lt, all, long))),
      λ h. search rules,
    )
