use Rattle.std.proofs.Common.{◌≢◌, ◌<◌, length, inl, inr, ◌∙◌, arith}
use Rattle.std.proofs.lemmas.Bool.{cases_eq}
use Rattle.std.proofs.lemmas.List.{get_or-set_same, get_or-set_other, length-set}
use Rattle.tt_sgf.proofs.ShiftLemmas.{down_moved, down_high}
use Rattle.tt_sgf.proofs.bits.Bits.shift_to_lower.Goals as goal

pub returns-clause-moved : goal.returns-clause-moved
returns-clause-moved c =
    let made = c.loop-j.invariant in down_moved c.loop-j.words c.args.self.now.words c.args.k c.requires.few made.last (λ j lt. made.rest j (omega arith))

pub returns-clause-high : goal.returns-clause-high
returns-clause-high c =
    let made = c.loop-j.invariant in down_high c.loop-j.words c.args.self.now.words c.args.k c.requires.few made.last (λ j lt. made.rest j (omega arith))

pub loop-j-preserved : goal.loop-j-preserved
loop-j-preserved c =
    let made = c.loop-j.invariant in let words = c.args.self.now.words in let at = c.loop-j.j in let k = c.args.k in
    let inside : at < length c.loop-j.words = omega (arith, made.wide) in
    record {
      wide = length-set c.loop-j.words at c.shifted_right-in-loop-j.result ∙ made.wide;
      last = let apart : 5 ≢ at = omega arith in rw get_or-set_other made.last;
      rest = λ j lt. elim (cases_eq j at) [
        | inl same ↦ rw (same, get_or-set_same) c.shifted_right-in-loop-j.ensures
        | inr apart ↦ let apart' : j ≢ at = apart in rw get_or-set_other (made.rest j (omega (arith, apart)))
      ];
    }
