use Rattle.std.proofs.Common.{◌≡◌, ◌∙◌, [], ap, sym}
use Rattle.std.proofs.lemmas.List.{nil_from_length}
use Rattle.tsumego_show.specs.Written.{has_triangles_alone}
use Rattle.tsumego_show.proofs.marking.unsquared_triangle_node.Goals as goal

pub returns : goal.returns
returns c =
    let e : c.loop-node.rest.now ≡ [] = nil_from_length c.loop-node.rest.now c.in_default.ensures.cases in
    sym (ap has_triangles_alone e) ∙ c.loop-node.invariant.all
