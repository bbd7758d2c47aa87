use Rattle.std.proofs.Common.{inl, inr, arith}
use Rattle.tt_sgf.specs.laws.SizeLaws.{point_count_is_bounded}
use Rattle.tt_board.proofs.NameLemmas.{touch_at}
use Rattle.tt_board.proofs.counted.chain_names.chains_beside.Goals as goal

pub push_chain_at-requires-clause-inside : goal.push_chain_at-requires-clause-inside
push_chain_at-requires-clause-inside c = λ q is. let n = (c.neighbours_of-near.ensures.all q).0 (inl is) in omega (arith, n.0, point_count_is_bounded c.args.size)

pub push_chain_at-requires-2-clause-inside : goal.push_chain_at-requires-2-clause-inside
push_chain_at-requires-2-clause-inside c = λ q is. let n = (c.neighbours_of-near.ensures.all q).0 (inr (inl is)) in omega (arith, n.0, point_count_is_bounded c.args.size)

pub push_chain_at-requires-3-clause-inside : goal.push_chain_at-requires-3-clause-inside
push_chain_at-requires-3-clause-inside c = λ q is. let n = (c.neighbours_of-near.ensures.all q).0 (inr (inr (inl is))) in omega (arith, n.0, point_count_is_bounded c.args.size)

pub push_chain_at-requires-4-clause-inside : goal.push_chain_at-requires-4-clause-inside
push_chain_at-requires-4-clause-inside c = λ q is. let n = (c.neighbours_of-near.ensures.all q).0 (inr (inr (inr is))) in omega (arith, n.0, point_count_is_bounded c.args.size)

pub returns-clause-beside : goal.returns-clause-beside
returns-clause-beside c m =
    let a1 = c.push_chain_at.ensures.added m in let a2 = c.push_chain_at-2.ensures.added m in let a3 = c.push_chain_at-3.ensures.added m in let a4 = c.push_chain_at-4.ensures.added m in (
      λ has. elim (a4.0 has) [
        | inr n ↦ (n.0, n.1, touch_at c.args.size c.args.names.now c.args.p m n.2.0 ((c.neighbours_of-near.ensures.all n.2.0).0 (inr (inr (inr n.2.1)))) n.2.2)
        | inl has3 ↦ elim (a3.0 has3) [
          | inr n ↦ (n.0, n.1, touch_at c.args.size c.args.names.now c.args.p m n.2.0 ((c.neighbours_of-near.ensures.all n.2.0).0 (inr (inr (inl n.2.1)))) n.2.2)
          | inl has2 ↦ elim (a2.0 has2) [
            | inr n ↦ (n.0, n.1, touch_at c.args.size c.args.names.now c.args.p m n.2.0 ((c.neighbours_of-near.ensures.all n.2.0).0 (inr (inl n.2.1))) n.2.2)
            | inl has1 ↦ elim (a1.0 has1) [
              | inr n ↦ (n.0, n.1, touch_at c.args.size c.args.names.now c.args.p m n.2.0 ((c.neighbours_of-near.ensures.all n.2.0).0 (inl n.2.1)) n.2.2)
              | inl none ↦ absurd (grind (arith, none.1, c.new-found.ensures))
            ]
          ]
        ]
      ],
      λ t. elim ((c.neighbours_of-near.ensures.all t.2.0).1 t.2.2.0) [
        | inl is ↦ a4.1 (inl (a3.1 (inl (a2.1 (inl (a1.1 (inr (t.0, t.1, (t.2.0, is, t.2.2.1)))))))))
        | inr (inl is) ↦ a4.1 (inl (a3.1 (inl (a2.1 (inr (t.0, t.1, (t.2.0, is, t.2.2.1)))))))
        | inr (inr (inl is)) ↦ a4.1 (inl (a3.1 (inr (t.0, t.1, (t.2.0, is, t.2.2.1)))))
        | inr (inr (inr is)) ↦ a4.1 (inr (t.0, t.1, (t.2.0, is, t.2.2.1)))
      ],
    )
