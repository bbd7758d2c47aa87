use Rattle.std.proofs.Common.{rules, subst}
use Rattle.tt_search.specs.PartialTree.{fresh}
use Rattle.tt_search.specs.inside.Walking.{stage, stand_of}
use Rattle.tt_search.specs.inside.Taken.{Taken}
use Rattle.tt_search.proofs.Asking.{room_to_ask}
use Rattle.tt_search.proofs.ChildSteps.{leaf_offerable}
use Rattle.tt_search.proofs.tree.node.Node.first_step.Goals as goal

pub offer_proof-walk-requires-clause-partial : goal.offer_proof-walk-requires-clause-partial
offer_proof-walk-requires-clause-partial g c =
    let leaf = c.close_or_expand-step in
    (leaf_offerable c.args.walk.now leaf.new.walk leaf.result leaf.new.self leaf.ensures.walk c.requires.«open» c.in-Expanded.is leaf.ensures.taken).0

pub offer_proof-walk-requires-clause-stays : goal.offer_proof-walk-requires-clause-stays
offer_proof-walk-requires-clause-stays g c =
    let leaf = c.close_or_expand-step in
    (leaf_offerable c.args.walk.now leaf.new.walk leaf.result leaf.new.self leaf.ensures.walk c.requires.«open» c.in-Expanded.is leaf.ensures.taken).1

pub ask_grant-requires-clause-room : goal.ask_grant-requires-clause-room
ask_grant-requires-clause-room g c =
    let walk = c.args.walk.now in
    let leaf = c.close_or_expand-step in
    room_to_ask (stand_of walk) (stage fresh walk.left) leaf.result leaf.new.self (g.G.Grants.asked c.args.grants.now).granted leaf.ensures.taken c.requires.grants

pub returns-then-not-ask_grant-clause-taken : goal.returns-then-not-ask_grant-clause-taken
returns-then-not-ask_grant-clause-taken g c =
    let walk = c.args.walk.now in
    let leaf = c.close_or_expand-step in
    let refused = c.ask_grant.ensures.refused (search rules) in
    let expands = subst (λ s. Taken (stand_of walk) (stage fresh walk.left) s leaf.new.self) refused.0 leaf.ensures.taken in
    (expands.0, expands.1.0, c.new_leaf.ensures)
