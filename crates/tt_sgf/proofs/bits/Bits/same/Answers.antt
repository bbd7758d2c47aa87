use Rattle.std.proofs.Common.{rules, ◌≡◌, ◌<◌, ◌^◌, get_or, length, arith, refl, ap}
use Rattle.std.proofs.lemmas.Bool.{false≢true}
use Rattle.std.proofs.lemmas.List.{ext_get_or}
use Rattle.tt_sgf.specs.MachineWords.{bit_in}
use Rattle.tt_sgf.proofs.BitLemmas.{word_is}
use Rattle.tt_sgf.proofs.bits.Bits.same.Goals as goal

pub returns-then-self-k : goal.returns-then-self-k
returns-then-self-k c =
    let k = c.loop-k.k in
    let a = c.args.self.now.words in let b = c.args.other.now.words in
    let fits_a : get_or a k 0 < 2 ^ 64 = search rules in
    let fits_b : get_or b k 0 < 2 ^ 64 = search rules in (
      λ no. absurd (false≢true no),
      λ same. absurd (c.if-self-k.true (word_is a b k (omega arith) fits_a fits_b same)),
    )

pub returns : goal.returns
returns c =
    let a = c.args.self.now.words in let b = c.args.other.now.words in
    let wide_a : length a ≡ 6 = search rules in
    let wide_b : length b ≡ 6 = search rules in
    let same : a ≡ b = ext_get_or 0 a b (omega (arith, wide_a, wide_b)) (λ k lt. c.loop-k.invariant k (omega (arith, wide_a))) in
    (λ _. λ n small. ap (λ xs. bit_in xs n) same, λ _. refl)
