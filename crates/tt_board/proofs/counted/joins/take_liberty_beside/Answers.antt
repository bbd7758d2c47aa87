use Rattle.std.proofs.Common.{inl, inr, refl, sym, arith}
use Rattle.tt_board.specs.inside.Chains.{root_of}
use Rattle.tt_board.proofs.StartLemmas.{each_fewer, others_same}
use Rattle.tt_board.proofs.counted.joins.take_liberty_beside.Goals as goal

pub take_liberty_from-requires-2-clause-some : goal.take_liberty_from-requires-2-clause-some
take_liberty_from-requires-2-clause-some c = λ f.
    let near = c.args.near.now in let r = root_of near.left in
    let e1 = c.take_liberty_from.ensures.same r (λ g. c.requires.apart near.above near.left (inl refl) (inr (inl refl)) g.0 g.1 f.0 f.1 (λ e. f.2 (sym e))) in
    omega (arith, e1, c.requires.some near.left (inr (inl refl)) f.0 f.1)

pub take_liberty_from-requires-3-clause-some : goal.take_liberty_from-requires-3-clause-some
take_liberty_from-requires-3-clause-some c = λ f.
    let near = c.args.near.now in let r = root_of near.right in
    let e1 = c.take_liberty_from.ensures.same r (λ g. c.requires.apart near.above near.right (inl refl) (inr (inr (inl refl))) g.0 g.1 f.0 f.1 (λ e. f.2 (sym e))) in
    let e2 = c.take_liberty_from-2.ensures.same r (λ g. c.requires.apart near.left near.right (inr (inl refl)) (inr (inr (inl refl))) g.0 g.1 f.0 f.1 (λ e. f.3 (sym e))) in
    omega (arith, e1, e2, c.requires.some near.right (inr (inr (inl refl))) f.0 f.1)

pub take_liberty_from-requires-4-clause-some : goal.take_liberty_from-requires-4-clause-some
take_liberty_from-requires-4-clause-some c = λ f.
    let near = c.args.near.now in let r = root_of near.below in
    let e1 = c.take_liberty_from.ensures.same r (λ g. c.requires.apart near.above near.below (inl refl) (inr (inr (inr refl))) g.0 g.1 f.0 f.1 (λ e. f.2 (sym e))) in
    let e2 = c.take_liberty_from-2.ensures.same r (λ g. c.requires.apart near.left near.below (inr (inl refl)) (inr (inr (inr refl))) g.0 g.1 f.0 f.1 (λ e. f.3 (sym e))) in
    let e3 = c.take_liberty_from-3.ensures.same r (λ g. c.requires.apart near.right near.below (inr (inr (inl refl))) (inr (inr (inr refl))) g.0 g.1 f.0 f.1 (λ e. f.4 (sym e))) in
    omega (arith, e1, e2, e3, c.requires.some near.below (inr (inr (inr refl))) f.0 f.1)

pub returns-clause-fewer : goal.returns-clause-fewer
returns-clause-fewer c =
    each_fewer _ _ _ _ _ _ _ _ _ _ c.requires.apart c.take_liberty_from.ensures.fewer c.take_liberty_from.ensures.same c.take_liberty_from-2.ensures.fewer c.take_liberty_from-2.ensures.same
    c.take_liberty_from-3.ensures.fewer c.take_liberty_from-3.ensures.same c.take_liberty_from-4.ensures.fewer c.take_liberty_from-4.ensures.same

pub returns-clause-same : goal.returns-clause-same
returns-clause-same c =
    others_same _ _ _ _ _ _ _ _ _ _ c.requires.apart c.take_liberty_from.ensures.fewer c.take_liberty_from.ensures.same c.take_liberty_from-2.ensures.fewer c.take_liberty_from-2.ensures.same
    c.take_liberty_from-3.ensures.fewer c.take_liberty_from-3.ensures.same c.take_liberty_from-4.ensures.fewer c.take_liberty_from-4.ensures.same
