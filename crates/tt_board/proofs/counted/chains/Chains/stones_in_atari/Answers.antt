use Rattle.std.proofs.Common.{ℕ, ◌≡◌, ◌<◌, ◌↔◌, true, sym, ap, ◌∙◌, refl, arith}
use Rattle.std.proofs.lemmas.Bool.{true≢false}
use Rattle.tt_sgf.specs.declared.bits.TheConstants.{BITS}
use Rattle.tt_sgf.specs.MachineWords.{bit_in}
use Rattle.tt_board.specs.inside.Chains.{ChainBoard, name_at, root_of}
use Rattle.tt_board.proofs.AmongLemmas.{sift_done, sift_rest}
use Rattle.tt_board.proofs.counted.chains.Chains.stones_in_atari.Goals as goal
use Rattle.tt_board.proofs.counted.chains.Chains.stones_in_atari.Goals.{then-self-root_of-eq1, else-self-root_of-eq1}

-- the stone is put exactly where its chain has one liberty
pub loop-q-preserved : goal.loop-q-preserved
loop-q-preserved c =
    let b = c.args.self.now in let q = c.loop-q.q in let stones = c.args.stones.now.words in
    let kept = c.loop-q.invariant in
    let found = c.loop-q.found.words in let made = c.if-self-root_of-eq1.found.words in
    let count : name_at c.self.inside.counts.liberties c.root_of.result ≡ name_at b.counts.liberties (root_of (name_at b.counts.names q)) =
    ap (name_at c.self.inside.counts.liberties) c.root_of.ensures.value ∙ ap (λ (v : ChainBoard). name_at v.counts.liberties (root_of (name_at v.counts.names q))) c.self.view_is in
    let here : (bit_in made q ≡ true) ↔ (name_at b.counts.liberties (root_of (name_at b.counts.names q)) ≡ 1) = elim c.if-self-root_of-eq1.branch [
      | then-self-root_of-eq1 w ↦ (λ _. sym count ∙ w.if-self-root_of-eq1.true, λ _. rw w.found-is w.set.ensures.same)
      | else-self-root_of-eq1 w ↦ (λ on. absurd (true≢false (sym on ∙ rw w.found-is (kept.rest q (omega arith) c.loop-q-test.true))), λ one. absurd (w.if-self-root_of-eq1.false (count ∙ one)))
    ] in
    let others : (r : ℕ) → r < BITS → (r ≡ q → ⊥) → bit_in made r ≡ bit_in found r = elim c.if-self-root_of-eq1.branch [
      | then-self-root_of-eq1 w ↦ rw w.found-is w.set.ensures.others
      | else-self-root_of-eq1 w ↦ rw w.found-is (λ r lt apart. refl)
    ] in
    let next = c.first_from-q-in-loop-q in
    record {
      most = next.ensures.most;
      here = next.ensures.found;
      done = sift_done stones found made (λ r. name_at b.counts.liberties (root_of (name_at b.counts.names r)) ≡ 1) q next.result next.ensures.after
          (kept.here c.loop-q-test.true) next.ensures.none kept.rest here others kept.done;
      rest = sift_rest stones found made (λ r. name_at b.counts.liberties (root_of (name_at b.counts.names r)) ≡ 1) q next.result next.ensures.after
          (kept.here c.loop-q-test.true) next.ensures.none kept.rest here others;
    }
