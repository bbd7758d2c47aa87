use Rattle.std.proofs.Common.{rules, ◌≡◌, ◌↔◌, ◌⊎◌, insert, Contains, sym, subst}
use Rattle.tt_proof.proofs.SharedLemmas.{inserted}
use Rattle.tt_proof.proofs.board_set.BoardSet.insert.Goals as goal

pub returns : goal.returns
returns c b =
    let k = c.insertion_index-k.result in
    let is : c.insert.new.self.items ≡ insert c.args.self.now k c.args.board = search rules in
    subst (λ xs. Contains xs b ↔ (Contains c.args.self.now b ⊎ (b ≡ c.args.board))) (sym is) (inserted c.args.self.now k c.args.board b)
