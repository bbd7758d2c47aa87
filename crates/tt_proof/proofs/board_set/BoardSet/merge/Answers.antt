use Rattle.std.proofs.Common.{rules, ◌≡◌, ◌↔◌, ◌⊎◌, ◌++◌, length, Contains, subst}
use Rattle.std.proofs.lemmas.List.Sorted.{IsNonDecreasingBy-from_sort_by_key}
use Rattle.std.specs.List.Sorted.{IsPermutation}
use Rattle.tt_proof.specs.inside.RisingHashes.{hash_of_board}
use Rattle.tt_proof.proofs.RetainLemmas.{kept, left_out_or_kept}
use Rattle.tt_proof.proofs.SharedLemmas.{right_empty, together, with_rest}
use Rattle.tt_proof.proofs.board_set.BoardSet.merge.Goals as goal

pub returns-then-len-eq0 : goal.returns-then-len-eq0
returns-then-len-eq0 c b =
    let mine = c.args.self.now in
    let others = c.others.inside.boards.items in
    let rest = c.retain.new.self.items in
    let none : length rest ≡ 0 = search rules in
    subst (λ xs. Contains mine b ↔ (Contains mine b ⊎ Contains xs b)) c.others.view_is
    (with_rest (right_empty mine rest none b)
    (λ m. (kept _ (λ x. Contains mine x → ⊥) (λ x. Contains mine x) _ (λ x r q k. search rules) others rest c.retain.ensures.filtered b m).0)
    (left_out_or_kept _ (λ x. Contains mine x → ⊥) (λ x. Contains mine x) _ (λ x r q k. search rules) others rest c.retain.ensures.filtered b))

pub invariant_of-self-2 : goal.invariant_of-self-2
invariant_of-self-2 c = IsNonDecreasingBy-from_sort_by_key hash_of_board c.sort_by_key.new.self.items c.in_ok-sort_by_key.ensures.sorted (λ a r q k. search rules)

pub returns : goal.returns
returns c b =
    let mine = c.args.self.now in
    let others = c.others.inside.boards.items in
    let rest = c.retain.new.self.items in
    let all = c.sort_by_key.new.self.items in
    let is : c.append.new.self.items ≡ mine ++ rest = search rules in
    subst (λ xs. Contains all b ↔ (Contains mine b ⊎ Contains xs b)) c.others.view_is
    (with_rest (together mine rest all (subst (λ xs. IsPermutation xs all) is c.in_ok-sort_by_key.ensures.permutation) b)
    (λ m. (kept _ (λ x. Contains mine x → ⊥) (λ x. Contains mine x) _ (λ x r q k. search rules) others rest c.retain.ensures.filtered b m).0)
    (left_out_or_kept _ (λ x. Contains mine x → ⊥) (λ x. Contains mine x) _ (λ x r q k. search rules) others rest c.retain.ensures.filtered b))
