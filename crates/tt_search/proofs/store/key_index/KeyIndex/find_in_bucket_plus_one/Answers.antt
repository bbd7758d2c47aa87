use Rattle.std.proofs.Common.{arith, ◌≢◌, ◌-◌, ◌+◌, ◌<◌, ◌∙◌, length, get_or}
use Rattle.std.proofs.lemmas.List.{get_or_read}
use Rattle.tt_search.specs.inside.Buckets.{NoHashFrom}
use Rattle.tt_search.proofs.Buckets.{bucket_within, bucket_read, head_low, head_inside, before_low, before_inside, unmarked_past_head, unmarked_past_next}
use Rattle.tt_search.proofs.store.key_index.KeyIndex.find_in_bucket_plus_one.Goals as goal

pub loop-next-init : goal.loop-next-init
loop-next-init c =
    let heads = c.self.inside.heads.items in
    let before = c.self.inside.before.items in
    let hashes = c.self.inside.hashes.items in
    let next = c.index.result.now in
    let many = c.len.ensures ∙ c.self.inside.heads.ok.0 in
    let within = bucket_within c.args.hash c.len.result (length heads) c.bucket_of.result c.bucket_of.ensures.bucket many c.bucket_of.ensures.within in
    let is = bucket_read heads c.args.hash c.len.result c.bucket_of.result next c.bucket_of.ensures.bucket many c.bucket_of.ensures.within c.index.ensures in
    record {
      low = head_low heads before hashes c.args.hash next within c.self.invariant.linked is;
      none = unmarked_past_head heads before hashes c.args.hash next within c.self.invariant.linked is;
      inside = head_inside heads before hashes c.args.hash next within c.self.invariant.linked is;
    }

pub loop-next-smaller : goal.loop-next-smaller
loop-next-smaller c =
    let slot = c.loop-next.next - 1 in
    let next = c.index-in-loop-next-2.result.now in
    let within : slot < length c.self.inside.hashes.items = omega (arith, c.loop-next.invariant.low, c.loop-next-test.true) in
    let is = get_or_read c.self.inside.before.items slot next (omega (arith, within, c.self.invariant.sized.one_each)) c.index-in-loop-next-2.ensures 0 in
    let low = before_low c.self.inside.heads.items c.self.inside.before.items c.self.inside.hashes.items slot next c.self.invariant.linked within is in
    omega (arith, low, c.loop-next-test.true)

pub loop-next-preserved : goal.loop-next-preserved
loop-next-preserved c =
    let heads = c.self.inside.heads.items in
    let before = c.self.inside.before.items in
    let hashes = c.self.inside.hashes.items in
    let slot = c.loop-next.next - 1 in
    let next = c.index-in-loop-next-2.result.now in
    let within : slot < length hashes = omega (arith, c.loop-next.invariant.low, c.loop-next-test.true) in
    let is = get_or_read before slot next (omega (arith, within, c.self.invariant.sized.one_each)) c.index-in-loop-next-2.ensures 0 in
    let low = before_low heads before hashes slot next c.self.invariant.linked within is in
    let there = get_or_read hashes slot c.index-in-loop-next.result.now within c.index-in-loop-next.ensures 0 in
    let later : NoHashFrom hashes c.args.hash (slot + 1) = λ i late high. c.loop-next.invariant.none i (omega (arith, late)) high in
    let here : get_or hashes slot 0 ≢ c.args.hash = λ e. c.if-index-hash.false (there ∙ e) in
    let same = c.loop-next.invariant.inside c.loop-next-test.true in
    record {
      low = omega (arith, low, within);
      none = unmarked_past_next heads before hashes c.args.hash slot next c.self.invariant.linked within same is later here;
      inside = before_inside heads before hashes c.args.hash slot next c.self.invariant.linked within same is;
    }
