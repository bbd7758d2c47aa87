use Rattle.std.proofs.Common.{rules, ◌≡◌, ◌+◌, ◌++◌, ◌∷◌, [], ◌∙◌, ◌<◌, arith}
use Rattle.std.specs.Int.{w64, trailing_zeros}
use Rattle.tt_board.specs.Reach.{entry_at}
use Rattle.tt_board.specs.inside.Boards.{edit_of, led}
use Rattle.tt_board.proofs.DifferencesLemmas.{half_left, half_skipped, half_past, half_edited, left_next, lowest_inside, from_same, front_pushed}
use Rattle.tt_board.proofs.boards.differences.push_word_edits.Goals as goal

pub returns-clause-half : goal.returns-clause-half
returns-clause-half c = λ here x fits alike from.
    let l = c.loop-rest in
    half_left c.args.word c.args.from l.p l.rest l.invariant.after l.invariant.rest here c.args.there.now _ alike (l.invariant.half here x fits alike from) l.invariant.within
    c.loop-rest-test.false

pub returns-then-p-len-clause-half : goal.returns-then-p-len-clause-half
returns-then-p-len-clause-half c = λ here x fits alike from.
    let l = c.loop-rest in
    let some : 0 < l.rest = omega (arith, c.loop-rest-test.true) in
    let inside = lowest_inside c.args.word c.args.from l.p l.rest l.invariant.after l.invariant.rest some c.ranges.word.fits in
    half_past here c.args.there.now _ (l.p + trailing_zeros w64 l.rest) (c.args.from + 64)
    (half_skipped c.args.word c.args.from l.p l.rest l.invariant.after l.invariant.rest some c.ranges.word.fits here c.args.there.now _ alike (l.invariant.half here x fits alike from))
    (omega (arith, inside)) fits (omega (arith, c.if-p-len.true, c.len.ensures.value))

pub loop-rest-preserved : goal.loop-rest-preserved
loop-rest-preserved c =
    let l = c.loop-rest in
    let there = c.args.there.now in
    let t = trailing_zeros w64 l.rest in
    let some : 0 < l.rest = omega (arith, c.loop-rest-test.true) in
    let inside = lowest_inside c.args.word c.args.from l.p l.rest l.invariant.after l.invariant.rest some c.ranges.word.fits in
    let is : c.push.new.self.items ≡ l.edits.items ++ edit_of (l.p + t) (entry_at there (l.p + t)) ∷ [] = search rules in
    record {
      after = omega (arith, l.invariant.after);
      within = omega (arith, inside);
      rest = left_next c.args.word c.args.from l.p l.rest l.invariant.after l.invariant.rest t;
      half = λ here x fits alike from. half_edited here there x l.edits.items c.push.new.self.items (l.p + t)
          (half_skipped c.args.word c.args.from l.p l.rest l.invariant.after l.invariant.rest some c.ranges.word.fits here there (led x l.edits.items) alike (l.invariant.half here x fits alike from))
          is (omega (arith, c.if-p-len.false, c.len.ensures.value, fits));
      colourings = λ x. from_same x l.edits.items c.push.new.self.items (l.p + t) (entry_at there (l.p + t)) is ∙ l.invariant.colourings x;
      kept = front_pushed c.args.edits.now.items l.edits.items c.push.new.self.items (edit_of (l.p + t) (entry_at there (l.p + t))) l.invariant.kept is;
    }
