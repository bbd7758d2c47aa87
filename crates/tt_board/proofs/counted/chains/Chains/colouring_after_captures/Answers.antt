use Rattle.std.proofs.Common.{ℕ, ◌≡◌, ◌≢◌, ◌↔◌, None, length, Contains, arith, sym, subst, ◌∙◌}
use Rattle.std.proofs.lemmas.Bool.{true≢false}
use Rattle.std.proofs.lemmas.List.Elements.{Contains-get_or}
use Rattle.tt_board.specs.Reach.{entry_at}
use Rattle.tt_board.specs.Play.{play_of}
use Rattle.tt_board.specs.inside.Chains.{name_at}
use Rattle.tt_board.proofs.MakeLemmas.{lifting_more, lifted_gone, lifted_kept, made_no_capture, made_suicide}
use Rattle.tt_board.proofs.counted.chains.Chains.colouring_after_captures.Goals as goal

pub lift_off_colouring-requires-clause-living : goal.lift_off_colouring-requires-clause-living
lift_off_colouring-requires-clause-living c =
    let xs = c.as_slice-name-items.result.now in let l = c.play_effect-look.ensures in
    l.living (name_at xs c.loop-name.name-index)
    (subst (λ ys. Contains ys (name_at xs c.loop-name.name-index)) c.as_slice-name-items.ensures.value (Contains-get_or xs c.loop-name.name-index 0 c.loop-name-test.true))

pub loop-name-preserved : goal.loop-name-preserved
loop-name-preserved c =
    let b = c.args.self.now in let xs = c.as_slice-name-items.result.now in let r = c.lift_off_colouring.ensures in
    lifting_more b.counts.names b.points xs c.loop-name.name-index c.loop-name.points c.lift_off_colouring.new.points c.loop-name.invariant r.fits r.gone r.kept

pub returns-then-not-look : goal.returns-then-not-look
returns-then-not-look c =
    let b = c.args.self.now in let k = c.args.colour in let p = c.args.p in let xs = c.as_slice-name-items.result.now in let l = c.play_effect-look.ensures in
    let t = c.loop-name.invariant in
    let end : c.loop-name.name-index ≡ length xs = omega arith in
    let kind = subst (λ ys. (q : ℕ) → entry_at b.points q ≢ None → (entry_at (play_of b.size b.points k p) q ≡ None) ↔ Contains ys (name_at b.counts.names q))
    (sym c.as_slice-name-items.ensures.value) l.goes in
    let gone = lifted_gone b.counts.names b.points xs c.loop-name.name-index c.loop-name.points t end in
    let kept = lifted_kept b.counts.names b.points xs c.loop-name.name-index c.loop-name.points t end in
    let stays : entry_at (play_of b.size b.points k p) p ≢ None = λ bare. true≢false (sym (l.suicide.1 bare) ∙ c.if-not-look.true) in
    c.set.ensures ∙ made_no_capture b.size b.points c.loop-name.points k p b.counts.names xs l.fits c.requires.on_board c.requires.free kind t.fits gone kept stays

pub returns-else-not-look : goal.returns-else-not-look
returns-else-not-look c =
    let b = c.args.self.now in let k = c.args.colour in let p = c.args.p in let xs = c.as_slice-name-items.result.now in let l = c.play_effect-look.ensures in
    let t = c.loop-name.invariant in
    let end : c.loop-name.name-index ≡ length xs = omega arith in
    let kind = subst (λ ys. (q : ℕ) → entry_at b.points q ≢ None → (entry_at (play_of b.size b.points k p) q ≡ None) ↔ Contains ys (name_at b.counts.names q))
    (sym c.as_slice-name-items.ensures.value) l.goes in
    let gone = lifted_gone b.counts.names b.points xs c.loop-name.name-index c.loop-name.points t end in
    let kept = lifted_kept b.counts.names b.points xs c.loop-name.name-index c.loop-name.points t end in
    made_suicide b.size b.points c.loop-name.points k p b.counts.names xs l.fits c.requires.on_board c.requires.free kind t.fits gone kept (l.suicide.0 c.if-not-look.false)
