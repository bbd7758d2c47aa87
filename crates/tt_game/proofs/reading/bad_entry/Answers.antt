use Rattle.std.proofs.Common.{◌≡◌, [], sym, ap, ◌∙◌}
use Rattle.std.proofs.lemmas.List.{nil_from_length}
use Rattle.tt_game.specs.Faults.{bad_entry}
use Rattle.tt_game.proofs.FaultLemmas.{bad_nowhere}
use Rattle.tt_game.proofs.reading.bad_entry.Goals as goal

pub returns : goal.returns
returns c =
    let e : c.loop-first.rest.now ≡ [] = nil_from_length c.loop-first.rest.now c.in_default.ensures.cases in
    let k = c.args.node in let i = c.loop-first.property in
    sym (bad_nowhere k c.args.size c.args.name.now i) ∙ ap (bad_entry k c.args.size c.args.name.now i) (sym e) ∙ c.loop-first.invariant.all
