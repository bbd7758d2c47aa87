use Rattle.std.proofs.Common.{◌↔◌, Bool, Option, [], sym, subst, IsTrue, IfSome}
use Rattle.tt_parts.specs.Outlines.{outline_of, unfolded}
use Rattle.tt_parts.specs.SharedParts.{NamedFootprints, IsReplayOfOutline}
use Rattle.tt_proof.specs.Wins.{WinsOrLives}
use Rattle.tt_parts.proofs.OutlineWinsLemmas.{answer_sound}
use Rattle.tt_parts.proofs.outline_replay.replay_shared_cert.Goals as goal

pub returns-clause-parts : goal.returns-clause-parts
returns-clause-parts c =
    let found = subst
    (λ (ns : NamedFootprints). IsReplayOfOutline c.args.s c.args.line.now.frame ns (outline_of c.args.o.now) c.args.line.now.state c.in_ok-found.found c.replay_outline.new.names.items)
    c.new-names.ensures.items c.in_ok-found.ensures.found in
    (c.in_ok-found.found, (c.replay_outline.new.names.items, (found, c.answer_of_result.ensures)))

pub returns-clause-exact : goal.returns-clause-exact
returns-clause-exact c =
    let f = c.args.line.now.frame in
    let o = outline_of c.args.o.now in
    let s = c.args.line.now.state in
    let found = subst (λ (ns : NamedFootprints). IsReplayOfOutline c.args.s f ns o s c.in_ok-found.found c.replay_outline.new.names.items) c.new-names.ensures.items c.in_ok-found.ensures.found in
    subst (λ (a : Option Bool). IfSome a (λ wins. IsTrue wins ↔ WinsOrLives c.args.s f (unfolded [] o) s)) (sym c.answer_of_result.ensures)
    (answer_sound c.args.s f o s c.in_ok-found.found c.replay_outline.new.names.items c.requires found)
