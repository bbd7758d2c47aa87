use Rattle.std.proofs.Common.{rules, ◌≡◌, Contains, List, subst}
use Rattle.tt_board.specs.Position.{Position}
use Rattle.tt_proof.proofs.shared_list.SharedList.has_same_as.Goals as goal

pub returns-in-Some-boards : goal.returns-in-Some-boards
returns-in-Some-boards c y b =
    let mine : c.deref.result.now ≡ c.args.self.now = search rules in
    let theirs : c.deref-in-Some-boards.result.now ≡ c.args.other.now = search rules in
    subst (λ (xs : List Position). Contains xs b → Contains c.args.self.now b) theirs
    (subst (λ (xs : List Position). Contains c.deref-in-Some-boards.result.now b → Contains xs b) mine (c.has_same_as.ensures y b))
