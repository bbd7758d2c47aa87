use Rattle.std.proofs.Common.{rules, ◌*◌, ◌^◌, ◌<◌, get_or, inl, inr, arith}
use Rattle.std.proofs.lemmas.Bool.{cases_lt, false≢true}
use Rattle.tt_sgf.proofs.BitLemmas.{covered_here, not_covered, no_bit_here}
use Rattle.tt_sgf.proofs.bits.Bits.is_within_union.Goals as goal

pub returns-then-left-ne0 : goal.returns-then-left-ne0
returns-then-left-ne0 c =
    let k = c.loop-k.k in
    let ws = c.args.self.now.words in let xs = c.args.one.now.words in let ys = c.args.other.now.words in
    let fits_w : get_or ws k 0 < 2 ^ 64 = search rules in
    let fits_x : get_or xs k 0 < 2 ^ 64 = search rules in
    let fits_y : get_or ys k 0 < 2 ^ 64 = search rules in (
      λ no. absurd (false≢true no),
      λ covered. absurd (not_covered ws xs ys k fits_x fits_y (omega arith) fits_w c.if-left-ne0.true covered),
    )

pub loop-k-preserved : goal.loop-k-preserved
loop-k-preserved c = λ q before on.
    let k = c.loop-k.k in
    let ws = c.args.self.now.words in let xs = c.args.one.now.words in let ys = c.args.other.now.words in
    let fits_x : get_or xs k 0 < 2 ^ 64 = search rules in
    let fits_y : get_or ys k 0 < 2 ^ 64 = search rules in
    elim (cases_lt q (64 * k)) [
      | inl done ↦ c.loop-k.invariant q done on
      | inr next ↦ covered_here ws xs ys k fits_x fits_y (search rules) q (omega arith) on
    ]

pub loop-k-preserved-then-self-k-eq0 : goal.loop-k-preserved-then-self-k-eq0
loop-k-preserved-then-self-k-eq0 c = λ q before on.
    elim (cases_lt q (64 * c.loop-k.k)) [
      | inl done ↦ c.loop-k.invariant q done on
      | inr next ↦ absurd (no_bit_here c.args.self.now.words c.loop-k.k q c.if-self-k-eq0.true (search rules) on)
    ]
