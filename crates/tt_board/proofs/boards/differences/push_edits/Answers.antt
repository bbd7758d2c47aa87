use Rattle.std.proofs.Common.{rules, ◌≡◌, ◌+◌, ◌*◌, ◌<◌, ◌++◌, ◌∷◌, [], get_or, subst, sym, ap, ◌∙◌, arith}
use Rattle.tt_sgf.specs.MachineWords.{bit_in}
use Rattle.tt_board.specs.declared.boards.differences.Edit.TheVariants.{Whole}
use Rattle.tt_board.specs.inside.Boards.{led, IsHalf, AreAlikeBy}
use Rattle.tt_board.proofs.DifferencesLemmas.{word_bit, front_kept, led_whole}
use Rattle.tt_board.proofs.boards.differences.push_edits.Goals as goal

pub loop-k-preserved : goal.loop-k-preserved
loop-k-preserved c =
    let here = c.args.here.now in let there = c.args.there.now in
    let k = c.loop-k.k in let words = c.words-words.result in
    let six : k < 6 = omega (arith, c.loop-k-test.true, c.len.ensures.value, c.len.ensures.small) in
    let next : 64 * k + 64 ≡ 64 * (k + 1) = omega arith in
    let alike : AreAlikeBy (get_or words k 0) (64 * k) here there = λ i small none.
    c.differing_points.ensures (64 * k + i) (omega (arith, six, small)) (ap (λ w. bit_in w (64 * k + i)) (sym c.words-words.ensures) ∙ word_bit words k i small none) in
    record {
      half = λ x from. subst (λ n. IsHalf here there n (led x c.push_word_edits.new.edits.items)) next
          (c.in_ok-push_word_edits.ensures.half here x c.requires alike (c.loop-k.invariant.half x from));
      colourings = λ x. c.in_ok-push_word_edits.ensures.colourings x ∙ c.loop-k.invariant.colourings x;
      kept = front_kept c.args.edits.now.items c.loop-k.edits.items c.push_word_edits.new.edits.items c.loop-k.invariant.kept c.push_word_edits.ensures.kept;
    }

pub returns-clause-ok : goal.returns-clause-ok
returns-clause-ok c =
    let es = c.loop-k.edits.items in
    let k = c.loop-k.k in
    let is : c.push.new.self.items ≡ es ++ Whole ∷ [] = search rules in
    led_whole c.args.here.now c.args.there.now c.args.edits.now.items es c.push.new.self.items (64 * k)
    c.loop-k.invariant.half c.loop-k.invariant.colourings is c.requires
    (omega (arith, c.loop-k-test.false, c.len.ensures.value))
