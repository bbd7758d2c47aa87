use Rattle.std.proofs.Common.{◌≡◌, ◌∙◌, [], ap, sym}
use Rattle.std.proofs.lemmas.List.{nil_from_length}
use Rattle.tsumego_show.specs.Written.{from_open}
use Rattle.tsumego_show.proofs.tree_bytes.from_first_parenthesis.Goals as goal

pub returns-clause-begun : goal.returns-clause-begun
returns-clause-begun c =
    let e : c.loop-first.rest.now ≡ [] = nil_from_length c.loop-first.rest.now c.in_default.ensures.cases in
    e ∙ sym (ap from_open e) ∙ c.loop-first.invariant.left
