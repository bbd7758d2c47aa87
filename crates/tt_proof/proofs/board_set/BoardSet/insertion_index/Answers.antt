use Rattle.std.proofs.Common.{rules, ◌≡◌, ◌≤◌, length, ltb, ltb-true, ltb-false, subst, sym, ◌∙◌}
use Rattle.std.proofs.lemmas.List.Sorted.{IsPartitionPoint-from_clause, IsPartitionedBy-ltb}
use Rattle.tt_proof.specs.inside.RisingHashes.{hash_of_board, DoHashesRise, IsPlaceOfHash}
use Rattle.tt_proof.proofs.board_set.BoardSet.insertion_index.Goals as goal

pub returns : goal.returns
returns c =
    let shown = c.deref.result.now in
    let is : shown ≡ c.args.self.now = c.deref.ensures.value ∙ c.self.view_is in
    let within : c.partition_point.result ≤ length shown = search rules in
    let point = IsPartitionPoint-from_clause (λ b. ltb (hash_of_board b) c.args.hash) shown _ c.partition_point.ensures.partitioned
    (IsPartitionedBy-ltb hash_of_board shown c.args.hash (subst DoHashesRise (sym c.deref.ensures.value) c.self.invariant)) (λ a r q k. search rules) in
    subst (λ bs. IsPlaceOfHash bs c.args.hash c.partition_point.result) is
    (within, (λ k d low lt. ltb-true _ _ (point.0 k d low lt), λ k d low lt. ltb-false _ _ (point.1 k d low lt)))
