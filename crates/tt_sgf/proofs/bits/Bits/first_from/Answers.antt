use Rattle.std.proofs.Common.{rules, ◌/◌, ◌%◌, ◌^◌, ◌<◌, get_or, refl, inl, inr, arith}
use Rattle.std.proofs.lemmas.Bool.{cases_lt}
use Rattle.tt_sgf.proofs.BitLemmas.{first_here, none_here}
use Rattle.tt_sgf.proofs.bits.Bits.first_from.Goals as goal

pub returns-then-rest-ne0-clause-none : goal.returns-then-rest-ne0-clause-none
returns-then-rest-ne0-clause-none c = λ q after before small.
    let words = c.args.self.now.words in let n = c.loop-n.n in
    let rest = get_or words (n / 64) 0 / 2 ^ (n % 64) in
    let here = first_here words n c.loop-n-test.true rest refl (omega (arith, c.if-rest-ne0.true)) (let fits : get_or words (n / 64) 0 < 2 ^ 64 = search rules in fits) in
    elim (cases_lt q n) [
      | inl done ↦ c.loop-n.invariant.none q after done
      | inr next ↦ here.2 q next before
    ]

pub returns-then-rest-ne0-clause-most : goal.returns-then-rest-ne0-clause-most
returns-then-rest-ne0-clause-most c =
    let words = c.args.self.now.words in let n = c.loop-n.n in
    let rest = get_or words (n / 64) 0 / 2 ^ (n % 64) in
    let here = first_here words n c.loop-n-test.true rest refl (omega (arith, c.if-rest-ne0.true)) (let fits : get_or words (n / 64) 0 < 2 ^ 64 = search rules in fits) in
    omega (arith, here.1)

pub returns-then-rest-ne0-clause-found : goal.returns-then-rest-ne0-clause-found
returns-then-rest-ne0-clause-found c = λ small.
    let words = c.args.self.now.words in let n = c.loop-n.n in
    let rest = get_or words (n / 64) 0 / 2 ^ (n % 64) in
    (first_here words n c.loop-n-test.true rest refl (omega (arith, c.if-rest-ne0.true)) (let fits : get_or words (n / 64) 0 < 2 ^ 64 = search rules in fits)).0

pub loop-n-preserved : goal.loop-n-preserved
loop-n-preserved c =
    let words = c.args.self.now.words in let n = c.loop-n.n in
    let rest = get_or words (n / 64) 0 / 2 ^ (n % 64) in
    record {
      after = omega (arith, c.loop-n.invariant.after);
      within = omega (arith, c.loop-n-test.true);
      none = λ q after before. elim (cases_lt q n) [
        | inl done ↦ c.loop-n.invariant.none q after done
        | inr next ↦ none_here words n c.loop-n-test.true rest refl (omega (arith, c.if-rest-ne0.false)) q next before
      ];
    }
