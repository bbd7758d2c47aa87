use Rattle.std.proofs.Common.{rules, ◌≡◌, ◌<◌, ◌∙◌, ◌||◌, ◌⊎◌, ap, inl, inr, refl, sym, true}
use Rattle.std.proofs.lemmas.Bool.{cases_Bool, true≢false}
use Rattle.std.specs.Cmp.{nat_cmp_total}
use Rattle.std.specs.FinSet as set
use Rattle.tt_sgf.specs.Sizes.{point_count}
use Rattle.tt_marks.specs.Reached.{Has}
use Rattle.tt_marks.specs.Walls.{IsOfGroup}
use Rattle.tt_marks.proofs.proposals.is_lone.Goals as goal

pub returns-then-is_other_stone : goal.returns-then-is_other_stone
returns-then-is_other_stone c =
    let p = c.point_numbered.result in
    let on_board : p < point_count c.args.board.now.size = search rules in
    let other = c.is_other_stone.ensures.0 c.if-is_other_stone.true in
    let either : (set.contains c.group.result p || set.contains c.args.region.now p) ≡ true =
    sym (ap (λ x. set.contains x p) c.or-near.ensures ∙ set.contains-union nat_cmp_total c.group.result c.args.region.now p) ∙ other.2 in
    let near : IsOfGroup c.args.board.now.size c.args.board.now.points c.args.colour c.args.stone p ⊎ Has (set.contains c.args.region.now) p = elim (cases_Bool (set.contains c.group.result p)) [
      | inl on ↦ inl ((c.group.ensures.those p on_board).0 on)
      | inr off ↦ inr (rw off at either)
    ] in
    (λ _. (p, on_board, other.0, other.1, near), λ _. refl)

pub returns : goal.returns
returns c = (
  λ on. absurd (true≢false on),
  λ h.
      let p = h.0 in
      let seen : p < c.loop-number.number = search rules in
      let either : (set.contains c.group.result p || set.contains c.args.region.now p) ≡ true = elim h.4 [
        | inl of_group ↦ rw ((c.group.ensures.those p h.1).1 of_group) refl
        | inr in_region ↦ rw in_region (search rules)
      ] in
      let near : Has (set.contains c.or-near.result) p =
      ap (λ x. set.contains x p) c.or-near.ensures ∙ set.contains-union nat_cmp_total c.group.result c.args.region.now p ∙ either in
      absurd (c.loop-number.invariant p seen (h.2, h.3, near)),
)
