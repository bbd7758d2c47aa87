use Rattle.std.proofs.Common.{◌∙◌, ◌∷◌, [], ap, ap₂, sym}
use Rattle.tsumego_show.proofs.same_nodes.is_node_with_marks.Goals as goal

pub returns : goal.returns
returns c = λ yes.
    let first = c.in-Some.ensures in
    let second = c.in-Some-behind_named.ensures in (
      first.0 ∷ second.0 ∷ [],
      ap₂ (λ x y. x ∷ y ∷ []) first.2 second.2,
      sym c.as_slice.ensures ∙ first.1 ∙ ap (λ l. first.0 ∷ l) (second.1 ∙ ap (λ l. second.0 ∷ l) (c.are_same.ensures yes ∙ c.as_slice-2.ensures)),
    )
