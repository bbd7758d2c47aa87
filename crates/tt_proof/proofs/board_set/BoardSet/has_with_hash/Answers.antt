use Rattle.std.proofs.Common.{rules, ◌≡◌, ◌<◌, ◌≤◌, length, get_or, sym, ap, subst, ◌∙◌}
use Rattle.std.proofs.lemmas.Bool.{false≢true}
use Rattle.tt_proof.specs.inside.RisingHashes.{hash_of_board, DoHashesRise, IsPlaceOfHash}
use Rattle.tt_proof.proofs.SharedLemmas.{shown_at}
use Rattle.tt_proof.proofs.RisingLemmas.{not_held}
use Rattle.tt_proof.proofs.board_set.BoardSet.has_with_hash.Goals as goal

pub returns-then-hash : goal.returns-then-hash
returns-then-hash c =
    let items = c.self.inside.boards.items in
    let now = c.args.self.now in
    let from = c.insertion_index-from.result in
    let k = c.loop-k.k in
    let h = c.index-held.result.now in
    let lt : k < length items = search rules in
    let is : h ≡ get_or items k h = search rules in
    let behind : from ≤ k = search rules in
    let other : c.hash.result ≡ c.args.hash → ⊥ = search rules in (
      λ y. absurd (false≢true y),
      λ m. absurd (not_held now from k c.args.board.now (subst DoHashesRise c.self.view_is c.self.invariant)
          (subst (λ n. IsPlaceOfHash now n from) c.requires c.insertion_index-from.ensures) behind c.loop-k.invariant
          (λ _ d e. other (c.hash.ensures ∙ ap hash_of_board (sym (shown_at items now k h c.self.view_is lt is d)) ∙ e ∙ sym c.requires)) m),
    )
