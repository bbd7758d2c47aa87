use Rattle.std.proofs.Common.{inl, inr, arith}
use Rattle.tt_board.proofs.counted.play_effects.chains_in_atari.Goals as goal

pub returns-clause-found : goal.returns-clause-found
returns-clause-found c m =
    let a1 = c.push_if_in_atari.ensures.added m in let a2 = c.push_if_in_atari-2.ensures.added m in let a3 = c.push_if_in_atari-3.ensures.added m in let a4 = c.push_if_in_atari-4.ensures.added m in (
      λ has. elim (a4.0 has) [
        | inr n ↦ (inr (inr (inr n.0)), n.1, n.2)
        | inl has3 ↦ elim (a3.0 has3) [
          | inr n ↦ (inr (inr (inl n.0)), n.1, n.2)
          | inl has2 ↦ elim (a2.0 has2) [
            | inr n ↦ (inr (inl n.0), n.1, n.2)
            | inl has1 ↦ elim (a1.0 has1) [
              | inr n ↦ (inl n.0, n.1, n.2)
              | inl none ↦ absurd (grind (arith, none.1, c.new-found.ensures))
            ]
          ]
        ]
      ],
      λ h. elim h.0 [
        | inl is ↦ a4.1 (inl (a3.1 (inl (a2.1 (inl (a1.1 (inr (is, h.1, h.2))))))))
        | inr (inl is) ↦ a4.1 (inl (a3.1 (inl (a2.1 (inr (is, h.1, h.2))))))
        | inr (inr (inl is)) ↦ a4.1 (inl (a3.1 (inr (is, h.1, h.2))))
        | inr (inr (inr is)) ↦ a4.1 (inr (is, h.1, h.2))
      ],
    )
