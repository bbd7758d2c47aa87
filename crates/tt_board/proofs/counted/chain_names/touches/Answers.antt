use Rattle.std.proofs.Common.{inl, inr, refl, sym, ◌∙◌, arith}
use Rattle.std.proofs.lemmas.Bool.{true≢false}
use Rattle.tt_sgf.specs.laws.SizeLaws.{point_count_is_bounded}
use Rattle.tt_board.proofs.NameLemmas.{touch_at}
use Rattle.tt_board.proofs.counted.chain_names.touches.Goals as goal

pub point_has_name-requires : goal.point_has_name-requires
point_has_name-requires c = λ q is. let n = (c.neighbours_of-near.ensures.all q).0 (inl is) in omega (arith, n.0, point_count_is_bounded c.args.size)

pub point_has_name-requires-2 : goal.point_has_name-requires-2
point_has_name-requires-2 c = λ q is. let n = (c.neighbours_of-near.ensures.all q).0 (inr (inl is)) in omega (arith, n.0, point_count_is_bounded c.args.size)

pub point_has_name-requires-3 : goal.point_has_name-requires-3
point_has_name-requires-3 c = λ q is. let n = (c.neighbours_of-near.ensures.all q).0 (inr (inr (inl is))) in omega (arith, n.0, point_count_is_bounded c.args.size)

pub point_has_name-requires-4 : goal.point_has_name-requires-4
point_has_name-requires-4 c = λ q is. let n = (c.neighbours_of-near.ensures.all q).0 (inr (inr (inr is))) in omega (arith, n.0, point_count_is_bounded c.args.size)

pub returns-then-point_has_name : goal.returns-then-point_has_name
returns-then-point_has_name c =
    let t = c.point_has_name.ensures.0 c.if-point_has_name.true in
    (λ _. touch_at c.args.size c.args.names.now c.args.p c.args.name t.0 ((c.neighbours_of-near.ensures.all t.0).0 (inl t.1)) t.2, λ _. refl)

pub returns-then-point_has_name-2 : goal.returns-then-point_has_name-2
returns-then-point_has_name-2 c =
    let t = c.point_has_name-2.ensures.0 c.if-point_has_name-2.true in
    (λ _. touch_at c.args.size c.args.names.now c.args.p c.args.name t.0 ((c.neighbours_of-near.ensures.all t.0).0 (inr (inl t.1))) t.2, λ _. refl)

pub returns-then-point_has_name-3 : goal.returns-then-point_has_name-3
returns-then-point_has_name-3 c =
    let t = c.point_has_name-3.ensures.0 c.if-point_has_name-3.true in
    (λ _. touch_at c.args.size c.args.names.now c.args.p c.args.name t.0 ((c.neighbours_of-near.ensures.all t.0).0 (inr (inr (inl t.1)))) t.2, λ _. refl)

pub returns : goal.returns
returns c = (
  λ h. let t = c.point_has_name-4.ensures.0 h in touch_at c.args.size c.args.names.now c.args.p c.args.name t.0 ((c.neighbours_of-near.ensures.all t.0).0 (inr (inr (inr t.1)))) t.2,
  λ t. elim ((c.neighbours_of-near.ensures.all t.0).1 t.2.0) [
    | inl is ↦ absurd (true≢false (sym (c.point_has_name.ensures.1 (t.0, is, t.2.1)) ∙ c.if-point_has_name.false))
    | inr (inl is) ↦ absurd (true≢false (sym (c.point_has_name-2.ensures.1 (t.0, is, t.2.1)) ∙ c.if-point_has_name-2.false))
    | inr (inr (inl is)) ↦ absurd (true≢false (sym (c.point_has_name-3.ensures.1 (t.0, is, t.2.1)) ∙ c.if-point_has_name-3.false))
    | inr (inr (inr is)) ↦ c.point_has_name-4.ensures.1 (t.0, is, t.2.1)
  ],
)
