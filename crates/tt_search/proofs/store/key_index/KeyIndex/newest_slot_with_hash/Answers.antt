use Rattle.std.proofs.Common.{arith, ◌≡◌, suc, ◌-◌, ◌+◌, ◌<◌, ◌∙◌, sym, ap, subst, Some, length, get_or, slice_get}
use Rattle.std.proofs.lemmas.List.{get_or_read}
use Rattle.tt_proof.specs.ProofClaim.{ProofClaim}
use Rattle.tt_search.specs.Stores.{HasKeyAndSide, IsNewest}
use Rattle.tt_search.specs.KeyIndex.{key_hashes, IndexState}
use Rattle.tt_search.specs.inside.Buckets.{bucket_of_hash, NoneFrom}
use Rattle.tt_search.proofs.Buckets.{before_low, before_inside, none_unmarked, none_past_next, not_found, answers_hash, found_newest, none_newest}
use Rattle.tt_search.proofs.store.key_index.KeyIndex.newest_slot_with_hash.Goals.{else-index-hash-via-then-index-hash+else-has_key_and_side, else-index-hash-via-else-index-hash}
use Rattle.tt_search.proofs.store.key_index.KeyIndex.newest_slot_with_hash.Goals as goal

pub loop-next-init : goal.loop-next-init
loop-next-init g c =
    let indexed : _ ≡ key_hashes (g.P.ProofList.proofs c.args.list.now) = c.requires.indexed in
    let view = ap (λ (v : IndexState). v.hashes) c.self.view_is in
    record {
      low = omega (arith, c.requires.last.low, ap length view);
      none = none_unmarked c.args.line.now c.args.side _ _ c.args.hash c.args.last indexed c.requires.hash c.requires.last.unmarked;
      inside = λ some. ap (λ m. bucket_of_hash m (length c.self.inside.heads.items)) (ap (λ l. get_or l (c.args.last - 1) 0) view ∙ c.requires.last.marked some);
    }

pub returns-then-has_key_and_side-clause-newest : goal.returns-then-has_key_and_side-clause-newest
returns-then-has_key_and_side-clause-newest g c =
    let ps = g.P.ProofList.proofs c.args.list.now in
    let found = c.has_key_and_side.ensures.0 c.if-has_key_and_side.true in
    let answers : HasKeyAndSide c.args.line.now c.args.side c.proof.result.now = record { same_key = found.0; for_side = found.1 } in
    let on : NoneFrom c.args.line.now c.args.side ps (suc (c.loop-next.next - 1)) = λ i p low. c.loop-next.invariant.none i p (omega (arith, low)) in
    let newest = found_newest c.args.line.now c.args.side ps (c.loop-next.next - 1) c.proof.result.now c.proof.ensures answers on in
    subst (IsNewest c.args.line.now c.args.side _) (sym c.proof.ensures) newest

pub loop-next-smaller : goal.loop-next-smaller
loop-next-smaller g c =
    let slot = c.loop-next.next - 1 in
    let within : slot < length c.self.inside.hashes.items = omega (arith, c.loop-next.invariant.low, c.loop-next-test.true) in
    let is = get_or_read c.self.inside.before.items slot c.index-in-loop-next.result.now (omega (arith, within, c.self.invariant.sized.one_each)) c.index-in-loop-next.ensures 0 in
    let low = before_low c.self.inside.heads.items c.self.inside.before.items c.self.inside.hashes.items slot c.index-in-loop-next.result.now c.self.invariant.linked within is in
    omega (arith, low, c.loop-next-test.true)

pub loop-next-preserved : goal.loop-next-preserved
loop-next-preserved g c =
    let heads = c.self.inside.heads.items in
    let before = c.self.inside.before.items in
    let hashes = c.self.inside.hashes.items in
    let line = c.args.line.now in
    let ps = g.P.ProofList.proofs c.args.list.now in
    let slot = c.loop-next.next - 1 in
    let next = c.index-in-loop-next.result.now in
    let all : hashes ≡ key_hashes ps = ap (λ (v : IndexState). v.hashes) c.self.view_is ∙ c.requires.indexed in
    let hash = c.requires.hash in
    let within : slot < length hashes = omega (arith, c.loop-next.invariant.low, c.loop-next-test.true) in
    let is = get_or_read before slot next (omega (arith, within, c.self.invariant.sized.one_each)) c.index-in-loop-next.ensures 0 in
    let low = before_low heads before hashes slot next c.self.invariant.linked within is in
    let there = get_or_read hashes slot c.index.result.now within c.index.ensures 0 in
    let on : NoneFrom line c.args.side ps (slot + 1) = λ i p late. c.loop-next.invariant.none i p (omega (arith, late)) in
    let here : (p : ProofClaim) → slice_get ps slot ≡ Some p → HasKeyAndSide line c.args.side p → ⊥ = λ p at. elim c.else-index-hash.branch [
      | else-index-hash-via-then-index-hash+else-has_key_and_side w ↦
          not_found line c.args.side ps slot w.has_key_and_side.result p w.proof.result.now w.proof.ensures at w.if-has_key_and_side.false w.has_key_and_side.ensures
      | else-index-hash-via-else-index-hash w ↦ (λ a. w.if-index-hash.false (there ∙ answers_hash line c.args.side hashes ps slot c.args.hash p all hash at a))
    ] in
    record {
      low = omega (arith, low, within);
      none = none_past_next line c.args.side heads before hashes ps c.args.hash slot next all hash c.self.invariant.linked within
          (c.loop-next.invariant.inside c.loop-next-test.true) is on here;
      inside = before_inside heads before hashes c.args.hash slot next c.self.invariant.linked within (c.loop-next.invariant.inside c.loop-next-test.true) is;
    }

pub returns-clause-newest : goal.returns-clause-newest
returns-clause-newest g c = none_newest c.args.line.now c.args.side _ (λ i p low. c.loop-next.invariant.none i p (omega (arith, c.loop-next-test.false)))
