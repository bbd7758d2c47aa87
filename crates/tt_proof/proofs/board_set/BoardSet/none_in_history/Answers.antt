use Rattle.std.proofs.Common.{rules, ◌≡◌, ◌<◌, ◌≤◌, length, get_or, sym, subst, ap, ◌∙◌, arith}
use Rattle.std.proofs.lemmas.Bool.{false≢true}
use Rattle.tt_game.specs.Line.{HasBoardInHistory}
use Rattle.tt_proof.proofs.RisingLemmas.{in_history, of_history}
use Rattle.tt_proof.proofs.SharedLemmas.{shown_at, one_more_place, stands_in}
use Rattle.tt_proof.proofs.board_set.BoardSet.none_in_history.Goals as goal

pub loop-held-preserved : goal.loop-held-preserved
loop-held-preserved c =
    let items = c.self.inside.boards.items in
    let line = c.args.line.now in
    let n = c.loop-held.held-index in
    let lt : n < length items = search rules in
    let is : c.held-item.result ≡ get_or items n c.held-item.result = search rules in
    let shows : c.board.result.now ≡ c.held-item.result = search rules in
    one_more_place c.args.self.now (λ x. HasBoardInHistory line.frame line.state x → ⊥) n c.held-item.result c.loop-held.invariant
    (shown_at items c.args.self.now n c.held-item.result c.self.view_is lt is)
    (λ h. false≢true (sym c.if-has_board_in_history.false ∙ c.has_board_in_history.ensures.1 (subst (λ x. HasBoardInHistory line.frame line.state x) (sym shows) h)))

pub returns-then-has_board_in_history : goal.returns-then-has_board_in_history
returns-then-has_board_in_history c =
    let items = c.self.inside.boards.items in
    let line = c.args.line.now in
    let n = c.loop-held.held-index in
    let lt : n < length items = search rules in
    let long = ap length c.self.view_is in
    let is : c.held-item.result ≡ get_or items n c.held-item.result = search rules in
    let shows : c.board.result.now ≡ c.held-item.result = search rules in
    let there = stands_in c.args.self.now n c.held-item.result (omega (arith, lt, long)) (shown_at items c.args.self.now n c.held-item.result c.self.view_is lt is) in (
      λ y. absurd (false≢true y),
      λ h. absurd (h c.held-item.result there (subst (λ x. HasBoardInHistory line.frame line.state x) shows (c.has_board_in_history.ensures.0 c.if-has_board_in_history.true))),
    )

pub returns : goal.returns
returns c =
    let items = c.self.inside.boards.items in
    let line = c.args.line.now in
    let all : length items ≤ c.loop-held.held-index = search rules in
    let long = ap length c.self.view_is in (
      λ yes b m k. let lt = m.1 in c.loop-held.invariant m.0 b (omega (arith, lt, all, long)) (subst (λ x. HasBoardInHistory line.frame line.state x) (sym m.2) k),
      λ h. search rules,
    )

pub returns-then-boards-len : goal.returns-then-boards-len
returns-then-boards-len c =
    let line = c.args.line.now in
    let found = c.has_none_of.ensures in
    let there = in_history line.frame line.state c.history-boards.result.now c.history-boards.ensures.colourings c.history-boards.ensures.sizes in
    let back = of_history line.frame line.state c.history-boards.result.now c.history-boards.ensures.colourings c.history-boards.ensures.sizes in
    (λ y b m h. found.0 y b m (there b h), λ n. found.1 (λ b m h. n b m (back b h)))
