use Rattle.std.proofs.Common.{◌≡◌, [], sym, ap, ◌∙◌}
use Rattle.std.proofs.lemmas.List.{nil_from_length}
use Rattle.tt_game.specs.Faults.{bad_first_value}
use Rattle.tt_game.proofs.FaultLemmas.{first_nowhere}
use Rattle.tt_game.proofs.reading.bad_first_value.Goals as goal

pub returns : goal.returns
returns c =
    let e : c.loop-first.rest.now ≡ [] = nil_from_length c.loop-first.rest.now c.in_default.ensures.cases in
    let k = c.args.node in let i = c.loop-first.property in
    sym (first_nowhere k c.args.name.now i) ∙ ap (bad_first_value k c.args.name.now i) (sym e) ∙ c.loop-first.invariant.all
