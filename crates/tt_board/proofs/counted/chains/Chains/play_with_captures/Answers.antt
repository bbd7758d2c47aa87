use Rattle.std.proofs.Common.{ℕ, ◌≡◌, ◌≢◌, ◌↔◌, Some, None, set, length, Contains, arith, sym, subst, ◌∙◌}
use Rattle.std.proofs.lemmas.Bool.{true≢false}
use Rattle.std.proofs.lemmas.List.Elements.{Contains-get_or}
use Rattle.tt_board.specs.Reach.{entry_at}
use Rattle.tt_board.specs.Play.{play_of}
use Rattle.tt_board.specs.Setup.{AllHaveLiberties}
use Rattle.tt_board.specs.inside.Chains.{name_at, IsEachOnce}
use Rattle.tt_board.proofs.PlayLemmas.{alive-play}
use Rattle.tt_board.proofs.MakeLemmas.{taking_more, taking_next, taken_gone, taken_kept, still_free, made_no_capture, made_suicide}
use Rattle.tt_board.proofs.counted.chains.Chains.play_with_captures.Goals as goal

pub take_chain-requires : goal.take_chain-requires
take_chain-requires c =
    let b = c.args.self.now in let k = c.args.colour in let p = c.args.p in let xs = c.as_slice-name-items.result.now in let l = c.play_effect-look.ensures in
    let t = c.loop-name.invariant.taking in
    let once = subst IsEachOnce (sym c.as_slice-name-items.ensures.value) l.once in
    let alive = l.living (name_at xs c.loop-name.name-index)
    (subst (λ ys. Contains ys (name_at xs c.loop-name.name-index)) c.as_slice-name-items.ensures.value (Contains-get_or xs c.loop-name.name-index 0 c.loop-name-test.true)) in
    record { living = (alive.0, taking_next b.counts.names b.points xs c.loop-name.name-index c.loop-name.self.counts.names c.loop-name.self.points t once c.loop-name-test.true alive.1) }

pub loop-name-preserved : goal.loop-name-preserved
loop-name-preserved c =
    let b = c.args.self.now in let k = c.args.colour in let p = c.args.p in let xs = c.as_slice-name-items.result.now in let l = c.play_effect-look.ensures in
    let t = c.loop-name.invariant.taking in
    let once = subst IsEachOnce (sym c.as_slice-name-items.ensures.value) l.once in
    let alive = l.living (name_at xs c.loop-name.name-index)
    (subst (λ ys. Contains ys (name_at xs c.loop-name.name-index)) c.as_slice-name-items.ensures.value (Contains-get_or xs c.loop-name.name-index 0 c.loop-name-test.true)) in
    record {
      size = c.take_chain.ensures.size ∙ c.loop-name.invariant.size;
      taking = rw c.take_chain.ensures.names (taking_more b.counts.names b.points xs c.loop-name.name-index c.loop-name.self.counts.names c.loop-name.self.points c.take_chain.new.self.points t once
          c.loop-name-test.true alive.0 c.take_chain.ensures.lost.fits c.take_chain.ensures.lost.gone c.take_chain.ensures.lost.kept);
    }

pub put_stone-requires-clause-free : goal.put_stone-requires-clause-free
put_stone-requires-clause-free c =
    let b = c.args.self.now in let k = c.args.colour in let p = c.args.p in let xs = c.as_slice-name-items.result.now in let l = c.play_effect-look.ensures in
    let t = c.loop-name.invariant.taking in
    let end : c.loop-name.name-index ≡ length xs = omega arith in
    let kind = subst (λ ys. (q : ℕ) → entry_at b.points q ≢ None → (entry_at (play_of b.size b.points k p) q ≡ None) ↔ Contains ys (name_at b.counts.names q))
    (sym c.as_slice-name-items.ensures.value) l.goes in
    let gone = taken_gone b.counts.names b.points xs c.loop-name.name-index c.loop-name.self.counts.names c.loop-name.self.points t end in
    let kept = taken_kept b.counts.names b.points xs c.loop-name.name-index c.loop-name.self.counts.names c.loop-name.self.points t end in
    still_free b.size b.points c.loop-name.self.points k p b.counts.names xs l.fits c.requires.on_board c.requires.free kind t.fits gone kept

pub put_stone-requires-clause-alive : goal.put_stone-requires-clause-alive
put_stone-requires-clause-alive c =
    let b = c.args.self.now in let k = c.args.colour in let p = c.args.p in let xs = c.as_slice-name-items.result.now in let l = c.play_effect-look.ensures in
    let t = c.loop-name.invariant.taking in
    let end : c.loop-name.name-index ≡ length xs = omega arith in
    let kind = subst (λ ys. (q : ℕ) → entry_at b.points q ≢ None → (entry_at (play_of b.size b.points k p) q ≡ None) ↔ Contains ys (name_at b.counts.names q))
    (sym c.as_slice-name-items.ensures.value) l.goes in
    let gone = taken_gone b.counts.names b.points xs c.loop-name.name-index c.loop-name.self.counts.names c.loop-name.self.points t end in
    let kept = taken_kept b.counts.names b.points xs c.loop-name.name-index c.loop-name.self.counts.names c.loop-name.self.points t end in
    let stays : entry_at (play_of b.size b.points k p) p ≢ None = λ bare. true≢false (sym (l.suicide.1 bare) ∙ c.if-not-look.true) in
    let made = made_no_capture b.size b.points c.loop-name.self.points k p b.counts.names xs l.fits c.requires.on_board c.requires.free kind t.fits gone kept stays in
    subst (λ s. AllHaveLiberties s (set c.loop-name.self.points p (Some k))) (sym c.loop-name.invariant.size)
    (subst (AllHaveLiberties b.size) (sym made) (alive-play b.size b.points k p))

pub returns-then-not-look-clause-points : goal.returns-then-not-look-clause-points
returns-then-not-look-clause-points c =
    let b = c.args.self.now in let k = c.args.colour in let p = c.args.p in let xs = c.as_slice-name-items.result.now in let l = c.play_effect-look.ensures in
    let t = c.loop-name.invariant.taking in
    let end : c.loop-name.name-index ≡ length xs = omega arith in
    let kind = subst (λ ys. (q : ℕ) → entry_at b.points q ≢ None → (entry_at (play_of b.size b.points k p) q ≡ None) ↔ Contains ys (name_at b.counts.names q))
    (sym c.as_slice-name-items.ensures.value) l.goes in
    let gone = taken_gone b.counts.names b.points xs c.loop-name.name-index c.loop-name.self.counts.names c.loop-name.self.points t end in
    let kept = taken_kept b.counts.names b.points xs c.loop-name.name-index c.loop-name.self.counts.names c.loop-name.self.points t end in
    let stays : entry_at (play_of b.size b.points k p) p ≢ None = λ bare. true≢false (sym (l.suicide.1 bare) ∙ c.if-not-look.true) in
    let made = made_no_capture b.size b.points c.loop-name.self.points k p b.counts.names xs l.fits c.requires.on_board c.requires.free kind t.fits gone kept stays in
    c.put_stone.ensures.points ∙ made

pub returns-else-not-look-clause-points : goal.returns-else-not-look-clause-points
returns-else-not-look-clause-points c =
    let b = c.args.self.now in let k = c.args.colour in let p = c.args.p in let xs = c.as_slice-name-items.result.now in let l = c.play_effect-look.ensures in
    let t = c.loop-name.invariant.taking in
    let end : c.loop-name.name-index ≡ length xs = omega arith in
    let kind = subst (λ ys. (q : ℕ) → entry_at b.points q ≢ None → (entry_at (play_of b.size b.points k p) q ≡ None) ↔ Contains ys (name_at b.counts.names q))
    (sym c.as_slice-name-items.ensures.value) l.goes in
    let gone = taken_gone b.counts.names b.points xs c.loop-name.name-index c.loop-name.self.counts.names c.loop-name.self.points t end in
    let kept = taken_kept b.counts.names b.points xs c.loop-name.name-index c.loop-name.self.counts.names c.loop-name.self.points t end in
    made_suicide b.size b.points c.loop-name.self.points k p b.counts.names xs l.fits c.requires.on_board c.requires.free kind t.fits gone kept (l.suicide.0 c.if-not-look.false)
