use Rattle.std.proofs.Common.{◌≡◌, ◌+◌, ◌*◌, ◌-◌, ◌/◌, ◌%◌, ◌^◌, ◌<◌, ◌≤◌, get_or, sym, ap, ◌∙◌, arith}
use Rattle.std.proofs.Math.Nat.{mod-eq_of_lt}
use Rattle.std.proofs.Math.Pow.{pow-lt}
use Rattle.tt_board.specs.declared.Colour.{Colour}
use Rattle.tt_board.specs.declared.Colour.TheVariants.{Black, White}
use Rattle.tt_game.specs.declared.history.bloom_filter.TheConstants.{HASH_DIVISOR, MIXER, FILTER_BITS, MIXER_POWERS}
use Rattle.tt_game.proofs.SumLemmas.{behind, hash_more, weight}
use Rattle.tt_game.proofs.history.bloom_filter.filter_index_with_stone.Goals as goal
use Rattle.tt_game.proofs.history.bloom_filter.filter_index_with_stone.Goals.{in-Black, in-White}

pub returns : goal.returns
returns c = λ g col fits on free is.
    let p = c.args.p in let k = c.args.colour in
    let first : c.match-colour.first ≡ behind k = elim c.match-colour.branch [
      | in-Black w ↦ w.first-is ∙ sym (ap behind w.in-Black.is)
      | in-White w ↦ w.first-is ∙ sym (ap behind w.in-White.is)
    ] in
    let index : c.from-n.result ≡ p = c.from-n.ensures ∙ c.number.ensures.number in
    let weights = c.match-colour.first - p / 64 in
    let small : p % 64 < 64 = omega arith in
    let one : 1 * 2 ^ (p % 64) % 2 ^ 64 ≡ 2 ^ (p % 64) =
    ap (λ n. n % 2 ^ 64) (omega arith) ∙ mod-eq_of_lt (pow-lt small) in
    let m = c.from-n.result in
    let shape : c.filter_index_of_sum.result
    ≡ (c.args.sum + 1 * 2 ^ (m % 64) % 2 ^ 64 * get_or MIXER_POWERS (c.match-colour.first - m / 64) 0 % 2 ^ 64) % 2 ^ 64 * MIXER % 2 ^ 64 / HASH_DIVISOR % FILTER_BITS =
    c.filter_index_of_sum.ensures in
    let made : c.filter_index_of_sum.result ≡ (c.args.sum + 2 ^ (p % 64) * get_or MIXER_POWERS weights 0 % 2 ^ 64) % 2 ^ 64 * MIXER % 2 ^ 64 / HASH_DIVISOR % FILTER_BITS =
    shape ∙ ap (λ n. (c.args.sum + 1 * 2 ^ (n % 64) % 2 ^ 64 * get_or MIXER_POWERS (c.match-colour.first - n / 64) 0 % 2 ^ 64) % 2 ^ 64 * MIXER % 2 ^ 64 / HASH_DIVISOR % FILTER_BITS) index
    ∙ ap (λ n. (c.args.sum + n * get_or MIXER_POWERS weights 0 % 2 ^ 64) % 2 ^ 64 * MIXER % 2 ^ 64 / HASH_DIVISOR % FILTER_BITS) one in
    let few : c.match-colour.first - p / 64 < 12 = omega (arith, first, most k) in
    made ∙ hash_more g col p k c.args.sum _ fits on free is (weight (c.match-colour.first - p / 64) few ∙ ap (λ n. MIXER ^ (n - p / 64) % 2 ^ 64) first)
  where
    most : (k : Colour) → behind k ≤ 11
    most Black = omega arith
    most White = omega arith
