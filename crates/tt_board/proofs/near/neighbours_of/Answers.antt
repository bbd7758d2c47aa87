use Rattle.std.proofs.Common.{arith, inl, inr, ◌<◌, ◌≤◌, ◌+◌, ◌%◌, ◌-◌}
use Rattle.tt_sgf.specs.Sizes.{point_count}
use Rattle.tt_board.specs.inside.Neighbours.{IsThere}
use Rattle.tt_board.proofs.near.neighbours_of.Goals as goal
use Rattle.tt_board.proofs.NearLemmas.{near_neighbours, neighbours_once}

pub returns-clause-all : goal.returns-clause-all
returns-clause-all c =
    let s = c.args.size in let p = c.args.p in
    let up : IsThere c.point_before_if.result (s.columns ≤ p) (p - s.columns) =
    elim c.point_before_if.ensures [ inl h ↦ inl (grind arith, grind arith) | inr h ↦ inr (λ on. h.0 (grind arith), h.1) ] in
    let back : IsThere c.point_before_if-2.result (0 < p % s.columns) (p - 1) =
    elim c.point_before_if-2.ensures [ inl h ↦ inl (grind arith, grind arith) | inr h ↦ inr (λ on. h.0 (grind arith), h.1) ] in
    let on : IsThere c.point_after_if.result (p % s.columns + 1 < s.columns) (p + 1) =
    elim c.point_after_if.ensures [ inl h ↦ inl (grind arith, grind arith) | inr h ↦ inr (λ on. h.0 (grind arith), h.1) ] in
    let down : IsThere c.point_after_if-2.result (p + s.columns < point_count s) (p + s.columns) =
    elim c.point_after_if-2.ensures [ inl h ↦ inl (grind arith, grind arith) | inr h ↦ inr (λ on. h.0 (grind arith), h.1) ] in
    near_neighbours s p (omega arith) c.requires _ _ _ _ up back on down

pub returns-clause-once : goal.returns-clause-once
returns-clause-once c =
    let s = c.args.size in let p = c.args.p in
    let up : IsThere c.point_before_if.result (s.columns ≤ p) (p - s.columns) =
    elim c.point_before_if.ensures [ inl h ↦ inl (grind arith, grind arith) | inr h ↦ inr (λ on. h.0 (grind arith), h.1) ] in
    let back : IsThere c.point_before_if-2.result (0 < p % s.columns) (p - 1) =
    elim c.point_before_if-2.ensures [ inl h ↦ inl (grind arith, grind arith) | inr h ↦ inr (λ on. h.0 (grind arith), h.1) ] in
    let on : IsThere c.point_after_if.result (p % s.columns + 1 < s.columns) (p + 1) =
    elim c.point_after_if.ensures [ inl h ↦ inl (grind arith, grind arith) | inr h ↦ inr (λ on. h.0 (grind arith), h.1) ] in
    let down : IsThere c.point_after_if-2.result (p + s.columns < point_count s) (p + s.columns) =
    elim c.point_after_if-2.ensures [ inl h ↦ inl (grind arith, grind arith) | inr h ↦ inr (λ on. h.0 (grind arith), h.1) ] in
    neighbours_once s p (omega arith) c.requires _ _ _ _ up back on down
