use Rattle.std.proofs.Common.{◌≡◌, [], ap, ◌∙◌, arith}
use Rattle.std.proofs.lemmas.List.{nil_from_length}
use Rattle.tt_game.specs.Faults.{first_bad_entry}
use Rattle.tt_game.proofs.FaultLemmas.{no_bad_entry}
use Rattle.tt_game.proofs.reading.first_bad_entry.Goals as goal

pub returns : goal.returns
returns c =
    let e : c.loop-value.rest.now ≡ [] = nil_from_length c.loop-value.rest.now c.in_default.ensures.cases in
    let none : first_bad_entry c.args.size c.loop-value.rest.now ≡ 0 = ap (first_bad_entry c.args.size) e ∙ no_bad_entry c.args.size in
    omega (arith, none, c.loop-value.invariant.all)
