use Rattle.std.proofs.Common.{◌≡◌, ℕ, ◌+◌, ◌*◌, ◌%◌, ◌^◌, ◌<◌, ◌≤◌, List, length, get_or, drop, sym, ◌∙◌, arith}
use Rattle.std.proofs.lemmas.List.{at_drop_more, at_drop_all}
use Rattle.tt_game.specs.declared.history.bloom_filter.TheConstants.{MIXER}
use Rattle.tt_game.specs.Mixing.{mix}
use Rattle.tt_game.proofs.history.bloom_filter.mix.Goals as goal

-- one word more
step : (sum : ℕ) (ws : List ℕ) (i : ℕ) → i < length ws
    → mix sum (drop i ws) ≡ mix ((sum * MIXER % 2 ^ 64 + get_or ws i 0) % 2 ^ 64) (drop (i + 1) ws)
unfolding mix
step sum ws i lt = at_drop_more (mix sum) ws i 0 lt

-- no word more
done : (sum : ℕ) (ws : List ℕ) (i : ℕ) → length ws ≤ i → mix sum (drop i ws) ≡ sum
unfolding mix
done sum ws i end = at_drop_all (mix sum) ws i end

pub returns : goal.returns
returns c = sym (done c.loop-word.sum c.args.words.now c.loop-word.word-index (omega (arith, c.loop-word-test.false))) ∙ c.loop-word.invariant

pub loop-word-preserved : goal.loop-word-preserved
loop-word-preserved c = sym (step c.loop-word.sum c.args.words.now c.loop-word.word-index c.loop-word-test.true) ∙ c.loop-word.invariant
