use Rattle.std.proofs.Common.{rules, ◌≡◌, ◌<◌, ◌∷◌, [], ◌++◌, length, take, get_or, sym, ap, ◌∙◌, arith}
use Rattle.std.proofs.lemmas.List.{take_more}
use Rattle.tt_proof.proofs.SharedLemmas.{shown_at}
use Rattle.tt_proof.proofs.board_set.BoardSet.try_clone.Goals as goal

pub loop-board-preserved : goal.loop-board-preserved
loop-board-preserved c =
    let items = c.self.inside.boards.items in
    let n = c.loop-board.board-index in
    let lt : n < length items = search rules in
    let is : c.board-item.result ≡ get_or items n c.board-item.result = search rules in
    let long = ap length c.self.view_is in
    let same : c.in_ok-try_clone.field-0 ≡ c.board-item.result = search rules in
    let here = shown_at items c.args.self.now n c.board-item.result c.self.view_is lt is in
    let pushed : c.push.new.self.items ≡ c.loop-board.boards.items ++ c.in_ok-try_clone.field-0 ∷ [] = search rules in
    pushed ∙ ap (λ xs. xs ++ c.in_ok-try_clone.field-0 ∷ []) c.loop-board.invariant
    ∙ ap (λ x. take n c.args.self.now ++ x ∷ []) (same ∙ sym (here c.board-item.result))
    ∙ sym (take_more c.args.self.now n c.board-item.result (omega (arith, lt, long)))
