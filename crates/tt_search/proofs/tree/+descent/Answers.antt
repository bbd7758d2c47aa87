use Rattle.std.proofs.Common.{rules, ◌≡◌, ◌+◌, ◌^◌, ◌<◌, ◌≤◌, ◌⊎◌, ℕ, true, length, take, get_or, refl, sym, ◌∙◌, ap, subst, arith}
use Rattle.tt_game.specs.declared.frame.Side.TheVariants.{Attacker, Defender}
use Rattle.tt_search.specs.PartialTree.{PartialTree}
use Rattle.tt_search.specs.inside.Shape.{shape}
use Rattle.tt_search.specs.inside.Choices.{node_with, best_index}
use Rattle.tt_search.specs.inside.ChildNodes.{choices_of, child_of}
use Rattle.tt_search.specs.inside.Child.{child_tree}
use Rattle.tt_search.specs.inside.Edges.{edge_state_of, grown_in, edge_turns, edge_trees}
use Rattle.tt_search.specs.Numbers.{number}
use Rattle.tt_search.specs.Growing.{IsPartialTree}
use Rattle.tt_search.specs.inside.Walking.{stage, stand_of, MayGrow}
use Rattle.tt_search.specs.inside.Steady.{AreStepsAt, AreSteps}
use Rattle.tt_search.specs.declared.limits.Step.TheVariants.{Expanded, Closed}
use Rattle.tt_search.specs.declared.descent.Descent.{Descent}
use Rattle.tt_search.proofs.ChildSteps.{fresh_here, fresh_child, not_won, rank_within_nodes, child_node, node_steps, one_step}
use Rattle.tt_search.proofs.Steady.{last_round, next_round, round_falls, same_numbers, same_stand, steps_offerable}
use Rattle.tt_search.proofs.Asking.{granted_more}
use Rattle.tt_search.proofs.Descending.{any_stop, last_of}
use Rattle.tt_search.proofs.Steps.{IsOfferable}
use Rattle.tt_search.proofs.Indices.{length-trees_by_turn, length-turns_of}
use Rattle.tt_search.proofs.Changed.{few_stay, index_there, in_trees, part_was, sum_now, index_now, own_now, above_was, pair_of}
use Rattle.tt_search.proofs.Rows.{number_le}
use Rattle.tt_search.proofs.WayDown.{turn_there, child_there, has_room, way_down, child_may_grow, round_steps}
use Rattle.tt_search.proofs.tree.+descent.Goals as goal

-- ---- below a node

pub children::ChildNodes::grow_at-index_mut-requires : goal.children::ChildNodes::grow_at-index_mut-requires
children::ChildNodes::grow_at-index_mut-requires g t c =
    let edge = c.at.result in
    omega (
      arith,
      rank_within_nodes c.args.self.now c.args.index c.args.rank edge
          (child_of c.args.self.now c.args.index) c.requires.there c.at.ensures c.requires.whole c.in-Grown.ensures c.requires.rank,
      c.args.self.now.grown.ok.0,
    )

pub children::ChildNodes::grow_at-grow-requires : goal.children::ChildNodes::grow_at-grow-requires
children::ChildNodes::grow_at-grow-requires g t c κs within =
    let node = c.index_mut.result.now in
    let here = child_node c.args.self.now c.args.index c.args.rank c.at.result node c.requires.there c.at.ensures c.requires.whole c.in-Grown.ensures c.requires.rank
    c.index_mut.ensures.value in
    let may_grow = subst (MayGrow (stand_of c.args.walk.now)) here c.requires.ready.may_grow in
    (omega (arith, c.decreases), (within.0, (within.1, record { may_grow = may_grow; room = c.requires.ready.room; grants = c.requires.ready.grants })))

pub children::ChildNodes::grow_at-first_step_at-requires-clause-open : goal.children::ChildNodes::grow_at-first_step_at-requires-clause-open
children::ChildNodes::grow_at-first_step_at-requires-clause-open g t c =
    let x = c.args.self.now in
    let line = c.args.walk.now.line in
    let is = fresh_child x.edges x.grown.items c.args.index c.at.result c.requires.there c.at.ensures (sym c.in-Fresh.ensures) in
    subst (IsPartialTree line.frame line.state) is c.requires.ready.may_grow.partial

pub children::ChildNodes::grow_at-first_step_at-requires-clause-there : goal.children::ChildNodes::grow_at-first_step_at-requires-clause-there
children::ChildNodes::grow_at-first_step_at-requires-clause-there g t c =
    let x = c.args.self.now in
    fresh_here x.edges x.grown.items c.args.index c.at.result c.requires.there c.at.ensures (sym c.in-Fresh.ensures)

pub children::ChildNodes::grow_at-unreachable-requires : goal.children::ChildNodes::grow_at-unreachable-requires
children::ChildNodes::grow_at-unreachable-requires g t c =
    let x = c.args.self.now in
    let edge = c.at.result in
    not_won x.edges x.grown.items c.args.index edge c.requires.there c.at.ensures c.requires.ready.may_grow.undecided (edge_state_of edge) refl c.in-Won.field-0 (sym c.in-Won.ensures)

pub children::ChildNodes::grow_at-returns-in-Grown-clause-steps : goal.children::ChildNodes::grow_at-returns-in-Grown-clause-steps
children::ChildNodes::grow_at-returns-in-Grown-clause-steps g t c =
    let node = c.index_mut.result.now in
    let walk = c.args.walk.now in
    node_steps c.args.self.now c.args.index c.args.rank c.at.result node c.requires.there c.at.ensures c.requires.whole c.in-Grown.ensures c.requires.rank
    c.args.stop (stand_of walk) walk.left c.grow.result c.grow.new.self c.grow.new.walk.left _ refl refl c.index_mut.ensures.value c.grow.ensures.steps

pub children::ChildNodes::grow_at-returns-in-Fresh-clause-steps : goal.children::ChildNodes::grow_at-returns-in-Fresh-clause-steps
children::ChildNodes::grow_at-returns-in-Fresh-clause-steps g t c =
    let x = c.args.self.now in
    let is = fresh_child x.edges x.grown.items c.args.index c.at.result c.requires.there c.at.ensures (sym c.in-Fresh.ensures) in
    one_step c.args.stop c.args.walk.now c.args.index x c.first_step_at.result c.first_step_at.new.self c.first_step_at.new.walk is c.first_step_at.ensures.first_step

pub children::ChildNodes::grow_at-returns-in-Fresh-clause-descends : goal.children::ChildNodes::grow_at-returns-in-Fresh-clause-descends
children::ChildNodes::grow_at-returns-in-Fresh-clause-descends g t c =
    any_stop g.G.Grants.asked g.G.Grants.source g.S.Store.may_answer c.args.stop c.args.walk.now c.args.grants.now
    c.first_step_at.result c.first_step_at.new.walk c.first_step_at.new.grants c.first_step_at.ensures.descends

-- ---- the rounds at a node

pub node::Node::grow-returns-then-is_one_step-clause-steps : goal.node::Node::grow-returns-then-is_one_step-clause-steps
node::Node::grow-returns-then-is_one_step-clause-steps g t c =
    let first = stage c.args.self.now c.args.walk.now.left in
    let now = stage c.rounds.self c.rounds.walk.left in
    let new = stage c.grow_once-step.new.self c.grow_once-step.new.walk.left in
    let same = same_stand c.rounds.walk c.args.walk.now c.rounds.invariant.line c.rounds.invariant.room in
    let steps = subst (λ at. AreStepsAt c.args.stop at now c.grow_once-step.result new) same c.grow_once-step.ensures.steps in
    last_round c.args.stop (stand_of c.args.walk.now) first now c.grow_once-step.result new steps c.rounds.invariant.under_way

pub node::Node::grow-returns-then-number-proof-clause-steps : goal.node::Node::grow-returns-then-number-proof-clause-steps
node::Node::grow-returns-then-number-proof-clause-steps g t c =
    let first = stage c.args.self.now c.args.walk.now.left in
    let now = stage c.rounds.self c.rounds.walk.left in
    let new = stage c.grow_once-step.new.self c.grow_once-step.new.walk.left in
    let same = same_stand c.rounds.walk c.args.walk.now c.rounds.invariant.line c.rounds.invariant.room in
    let steps = subst (λ at. AreStepsAt c.args.stop at now c.grow_once-step.result new) same c.grow_once-step.ensures.steps in
    last_round c.args.stop (stand_of c.args.walk.now) first now c.grow_once-step.result new steps c.rounds.invariant.under_way

pub node::Node::grow-returns-then-is_one_step-clause-descends : goal.node::Node::grow-returns-then-is_one_step-clause-descends
node::Node::grow-returns-then-is_one_step-clause-descends g t c =
    let far = c.rounds.invariant in
    last_of g.G.Grants.asked g.G.Grants.source g.S.Store.may_answer c.args.stop c.args.walk.now (record c.rounds.walk { offering = true }) c.args.grants.now c.rounds.grants c.grow_once-step.result
    c.grow_once-step.new.walk c.grow_once-step.new.grants far.line far.room far.granted far.source far.far c.grow_once-step.ensures.descends

pub node::Node::grow-returns-then-number-proof-clause-descends : goal.node::Node::grow-returns-then-number-proof-clause-descends
node::Node::grow-returns-then-number-proof-clause-descends g t c =
    let far = c.rounds.invariant in
    last_of g.G.Grants.asked g.G.Grants.source g.S.Store.may_answer c.args.stop c.args.walk.now (record c.rounds.walk { offering = true }) c.args.grants.now c.rounds.grants c.grow_once-step.result
    c.grow_once-step.new.walk c.grow_once-step.new.grants far.line far.room far.granted far.source far.far c.grow_once-step.ensures.descends

pub node::Node::grow-rounds-smaller : goal.node::Node::grow-rounds-smaller
node::Node::grow-rounds-smaller g t c =
    let changed : (c.grow_once-step.result ≡ Expanded) ⊎ (c.grow_once-step.result ≡ Closed) = search rules in
    let now = stage c.rounds.self c.rounds.walk.left in
    let new = stage c.grow_once-step.new.self c.grow_once-step.new.walk.left in
    round_falls c.args.stop (stand_of c.rounds.walk) now now c.grow_once-step.result new c.grow_once-step.ensures.steps changed c.rounds.invariant.under_way.may_grow.undecided

pub node::Node::grow-rounds-preserved : goal.node::Node::grow-rounds-preserved
node::Node::grow-rounds-preserved g t c =
    let changed : (c.grow_once-step.result ≡ Expanded) ⊎ (c.grow_once-step.result ≡ Closed) = search rules in
    let proof : number Attacker c.grow_once-step.new.self ≡ number Attacker c.rounds.self = search rules in
    let disproof : number Defender c.grow_once-step.new.self ≡ number Defender c.rounds.self = search rules in
    let first = stage c.args.self.now c.args.walk.now.left in
    let now = stage c.rounds.self c.rounds.walk.left in
    let new = stage c.grow_once-step.new.self c.grow_once-step.new.walk.left in
    let same = same_stand c.rounds.walk c.args.walk.now c.rounds.invariant.line c.rounds.invariant.room in
    let steps = subst (λ at. AreStepsAt c.args.stop at now c.grow_once-step.result new) same c.grow_once-step.ensures.steps in
    record {
      line = c.grow_once-step.ensures.descends.line ∙ c.rounds.invariant.line;
      room = c.grow_once-step.ensures.descends.room ∙ c.rounds.invariant.room;
      granted = c.grow_once-step.ensures.descends.granted ∙ c.rounds.invariant.granted;
      source = c.grow_once-step.ensures.descends.source_stays ∙ c.rounds.invariant.source;
      far =
          granted_more c.args.stop (g.G.Grants.asked c.args.grants.now) (g.G.Grants.asked c.rounds.grants) (g.G.Grants.asked c.grow_once-step.new.grants) c.grow_once-step.result
          c.rounds.invariant.far c.grow_once-step.ensures.descends.asked_for c.is_one_step.result c.is_one_step.ensures c.if-is_one_step.false changed;
      under_way =
          next_round c.args.stop (stand_of c.args.walk.now) first now c.grow_once-step.result new steps
          c.is_one_step.result c.is_one_step.ensures c.if-is_one_step.false c.rounds.invariant.under_way changed (same_numbers c.rounds.self c.grow_once-step.new.self proof disproof);
    }

-- ---- the best child of a node

pub children::ChildNodes::grow_best-child-requires-clause-there : goal.children::ChildNodes::grow_best-child-requires-clause-there
children::ChildNodes::grow_best-child-requires-clause-there g t c =
    let x = c.args.self.now in
    omega (arith, c.requires.there, c.from-index.ensures)

pub children::ChildNodes::grow_best-grow_at-step-requires : goal.children::ChildNodes::grow_best-grow_at-step-requires
children::ChildNodes::grow_best-grow_at-step-requires g t c κs within =
    let x = c.args.self.now in
    let rank = c.from-rank.ensures ∙ c.requires.kept.kept.rank ∙ ap (λ i. grown_in (take i x.edges)) (sym c.from-index.ensures) in (
      omega (arith, c.decreases),
      (
        within.0,
        (
          within.1,
          (
            omega (arith, c.requires.there, c.from-index.ensures),
            (
              rank,
              (
                c.requires.kept.kept.whole,
                record {
                  may_grow = subst (λ i. MayGrow (stand_of c.args.walk.now) (child_of x i)) (sym c.from-index.ensures) c.requires.ready.may_grow;
                  room = c.requires.ready.room;
                  grants = c.requires.ready.grants;
                },
              ),
            ),
          ),
        ),
      ),
    )

pub children::ChildNodes::grow_best-child-child-requires-clause-there : goal.children::ChildNodes::grow_best-child-child-requires-clause-there
children::ChildNodes::grow_best-child-child-requires-clause-there g t c =
    let x = c.args.self.now in
    let is = c.from-index.ensures ∙ c.requires.kept.kept.index in
    let in_trees : c.from-index.result < length (edge_trees x.edges x.grown.items) = omega (arith, c.requires.there, c.from-index.ensures, length-trees_by_turn x.edges x.grown.items) in
    let steps = c.grow_at-step.ensures.steps in
    index_there c.args.focus.now.mover x c.grow_at-step.new.self c.from-index.result steps.0 is in_trees steps.2

pub children::ChildNodes::grow_best-opponent_sum_after-other-requires-clause-part : goal.children::ChildNodes::grow_best-opponent_sum_after-other-requires-clause-part
children::ChildNodes::grow_best-opponent_sum_after-other-requires-clause-part g t c =
    let a = c.args.focus.now.mover in
    let x = c.args.self.now in
    let there : best_index (choices_of a x) < length (edge_trees x.edges x.grown.items) = omega (arith, c.requires.there, c.requires.kept.kept.index, length-trees_by_turn x.edges x.grown.items) in
    let steps = c.grow_at-step.ensures.steps in
    let is = c.from-index.ensures ∙ c.requires.kept.kept.index in
    part_was a x c.grow_at-step.new.self c.from-index.result (choices_of a x) c.args.was refl c.requires.kept.pair is there steps.0 steps.2
    (child_tree c.child-child.result) c.child-child.ensures c.opponent-goal.result c.opponent-goal.ensures (child_tree c.child.result) c.child.ensures
    c.number-old.result c.number-new.result c.number-old.ensures c.number-new.ensures

pub children::ChildNodes::grow_best-opponent_sum_after-other-requires-clause-changed : goal.children::ChildNodes::grow_best-opponent_sum_after-other-requires-clause-changed
children::ChildNodes::grow_best-opponent_sum_after-other-requires-clause-changed g t c =
    let a = c.args.focus.now.mover in
    let x = c.args.self.now in
    let there : best_index (choices_of a x) < length (edge_trees x.edges x.grown.items) = omega (arith, c.requires.there, c.requires.kept.kept.index, length-trees_by_turn x.edges x.grown.items) in
    let steps = c.grow_at-step.ensures.steps in
    let is = c.from-index.ensures ∙ c.requires.kept.kept.index in
    sum_now a x c.grow_at-step.new.self c.from-index.result (choices_of a x) c.args.was refl c.requires.kept.pair is there steps.0 steps.2
    (child_tree c.child-child.result) c.child-child.ensures c.opponent-goal.result c.opponent-goal.ensures (child_tree c.child.result) c.child.ensures
    c.number-old.result c.number-new.result c.number-old.ensures c.number-new.ensures

pub children::ChildNodes::grow_best-returns-then-own-was-clause-kept : goal.children::ChildNodes::grow_best-returns-then-own-was-clause-kept
children::ChildNodes::grow_best-returns-then-own-was-clause-kept g t c =
    let a = c.args.focus.now.mover in
    let x = c.args.self.now in
    let there : best_index (choices_of a x) < length (edge_trees x.edges x.grown.items) = omega (arith, c.requires.there, c.requires.kept.kept.index, length-trees_by_turn x.edges x.grown.items) in
    let steps = c.grow_at-step.ensures.steps in
    let is = c.from-index.ensures ∙ c.requires.kept.kept.index in
    let new = c.grow_at-step.new.self in
    let in_trees_here = in_trees a x new c.from-index.result (choices_of a x) c.args.was refl c.requires.kept.pair is there steps.0 steps.2
    (child_tree c.child-child.result) c.child-child.ensures in
    record {
      kept = record {
        few = few_stay a x new c.from-index.result steps.0 is in_trees_here steps.2 c.requires.kept.kept.few;
        whole = c.grow_at-step.ensures.whole;
        index = sym c.from-index.ensures ∙ index_now a x new c.from-index.result (choices_of a x) c.args.was refl c.requires.kept.pair is there steps.0 steps.2
            (child_tree c.child-child.result) c.child-child.ensures c.number-own.result c.number-own.ensures c.if-own-was.true;
        rank = c.requires.kept.kept.rank ∙ ap (λ i. grown_in (take i x.edges)) (sym c.from-index.ensures) ∙ ap grown_in (sym c.grow_at-step.ensures.before)
            ∙ ap (λ i. grown_in (take i new.edges)) c.from-index.ensures;
      };
      pair = pair_of (choices_of a new) c.number-own.result c.opponent_sum_after-other.result
          (own_now a x new c.from-index.result (choices_of a x) c.args.was refl c.requires.kept.pair is there steps.0 steps.2
          (child_tree c.child-child.result) c.child-child.ensures c.number-own.result c.number-own.ensures c.if-own-was.true) c.opponent_sum_after-other.ensures;
    }

pub children::ChildNodes::grow_best-best-best-requires-clause-lowest : goal.children::ChildNodes::grow_best-best-best-requires-clause-lowest
children::ChildNodes::grow_best-best-best-requires-clause-lowest g t c =
    let a = c.args.focus.now.mover in
    let x = c.args.self.now in
    let there : best_index (choices_of a x) < length (edge_trees x.edges x.grown.items) = omega (arith, c.requires.there, c.requires.kept.kept.index, length-trees_by_turn x.edges x.grown.items) in
    let steps = c.grow_at-step.ensures.steps in
    let is = c.from-index.ensures ∙ c.requires.kept.kept.index in
    above_was a x c.grow_at-step.new.self c.from-index.result (choices_of a x) c.args.was refl c.requires.kept.pair is there steps.0 steps.2
    (child_tree c.child-child.result) c.child-child.ensures c.number-own.result c.number-own.ensures (omega (arith, c.if-own-was.false))

pub children::ChildNodes::grow_best-best-best-requires-clause-finite : goal.children::ChildNodes::grow_best-best-best-requires-clause-finite
children::ChildNodes::grow_best-best-best-requires-clause-finite g t c =
    omega (arith, c.if-own-was.false, c.number-own.ensures, number_le c.args.focus.now.mover (child_tree c.child-child.result))

pub children::ChildNodes::grow_best-returns-clause-kept : goal.children::ChildNodes::grow_best-returns-clause-kept
children::ChildNodes::grow_best-returns-clause-kept g t c =
    let a = c.args.focus.now.mover in
    let x = c.args.self.now in
    let there : best_index (choices_of a x) < length (edge_trees x.edges x.grown.items) = omega (arith, c.requires.there, c.requires.kept.kept.index, length-trees_by_turn x.edges x.grown.items) in
    let steps = c.grow_at-step.ensures.steps in
    let is = c.from-index.ensures ∙ c.requires.kept.kept.index in
    let new = c.grow_at-step.new.self in
    let in_trees_here = in_trees a x new c.from-index.result (choices_of a x) c.args.was refl c.requires.kept.pair is there steps.0 steps.2
    (child_tree c.child-child.result) c.child-child.ensures in
    record {
      kept = record {
        few = few_stay a x new c.from-index.result steps.0 is in_trees_here steps.2 c.requires.kept.kept.few;
        whole = c.grow_at-step.ensures.whole;
        index = c.best-best.ensures.index;
        rank = c.best-best.ensures.rank;
      };
      pair = pair_of (choices_of a new) c.best-best.result.least c.opponent_sum_after-other.result c.best-best.ensures.least c.opponent_sum_after-other.ensures;
    }

-- ---- a descent below a node with these children

pub children::ChildNodes::descend-best_turn-requires : goal.children::ChildNodes::descend-best_turn-requires
children::ChildNodes::descend-best_turn-requires g t c =
    let x = choices_of c.args.focus.now.mover c.args.self.now in
    omega (arith, turn_there (stand_of c.args.walk.now) x (node_with x) refl c.requires.ready.may_grow, c.requires.kept.kept.index, length-turns_of c.args.self.now.edges)

pub children::ChildNodes::descend-go_down-requires-clause-legal : goal.children::ChildNodes::descend-go_down-requires-clause-legal
children::ChildNodes::descend-go_down-requires-clause-legal g t c =
    let x = choices_of c.args.focus.now.mover c.args.self.now in
    let turn = c.best_turn.ensures ∙ ap (λ i. get_or (edge_turns c.args.self.now.edges) i c.best_turn.result) c.requires.kept.kept.index in
    (way_down (stand_of c.args.walk.now) x (node_with x) refl c.requires.ready.may_grow c.best_turn.result turn).legal

pub children::ChildNodes::descend-grow_best-step-requires : goal.children::ChildNodes::descend-grow_best-step-requires
children::ChildNodes::descend-grow_best-step-requires g t c κs within =
    let focus = c.args.focus.now in
    let children = c.args.self.now in
    let x = choices_of focus.mover children in
    let walk = c.args.walk.now in
    let turn = c.best_turn.ensures ∙ ap (λ i. get_or (edge_turns children.edges) i c.best_turn.result) c.requires.kept.kept.index in
    let way = way_down (stand_of walk) x (node_with x) refl c.requires.ready.may_grow c.best_turn.result turn in
    let gone = c.in-Ok.ensures.ok in
    let room = has_room (stand_of walk) x (node_with x) refl c.requires.ready.may_grow in
    let below = child_there (stand_of walk) x (node_with x) refl c.requires.ready.may_grow in
    let there : focus.index < length children.edges = omega (arith, below, c.requires.kept.kept.index, length-trees_by_turn children.edges children.grown.items) in
    let may_grow = subst (λ i. MayGrow (stand_of c.go_down.new.self) (child_of children i)) (sym c.requires.kept.kept.index)
    (child_may_grow walk x (node_with x) c.best_turn.result way c.go_down.new.self gone) in
    let grants = subst (λ (n : ℕ). (g.G.Grants.asked c.args.grants.now).granted + n < 2 ^ 64) (sym gone.left) c.requires.ready.grants in
    let low : c.go_down.new.self.room ≤ 512 = omega (arith, gone.room, c.requires.ready.room) in
    (omega (arith, c.decreases, gone.room, room), (within.0, (within.1, (c.requires.kept, (there, record { may_grow = may_grow; room = low; grants = grants })))))

pub children::ChildNodes::descend-returns-clause-steps : goal.children::ChildNodes::descend-returns-clause-steps
children::ChildNodes::descend-returns-clause-steps g t c =
    let focus = c.args.focus.now in
    let children = c.args.self.now in
    let x = choices_of focus.mover children in
    let walk = c.args.walk.now in
    let turn = c.best_turn.ensures ∙ ap (λ i. get_or (edge_turns children.edges) i c.best_turn.result) c.requires.kept.kept.index in
    let way = way_down (stand_of walk) x (node_with x) refl c.requires.ready.may_grow c.best_turn.result turn in
    let gone = c.in-Ok.ensures.ok in
    let new = choices_of c.grow_best-step.new.focus.mover c.grow_best-step.new.self in
    round_steps walk x (node_with x) c.best_turn.result way c.go_down.new.self gone c.args.stop c.grow_best-step.result.0 new
    c.grow_best-step.new.walk c.go_up.new.self c.grow_best-step.ensures.steps c.go_up.ensures.left

-- ---- the descent of a round

pub node::Node::grow_once-invariant_of-self : goal.node::Node::grow_once-invariant_of-self
node::Node::grow_once-invariant_of-self g t c =
    let new = node_with (choices_of c.descend-step.new.focus.mover c.descend-step.new.self) in
    (c.proof_and_disproof-proof.ensures new c.descend-step.ensures.kept.pair, c.descend-step.ensures.kept.kept)

pub node::Node::grow_once-offer_proof-walk-requires-clause-partial : goal.node::Node::grow_once-offer_proof-walk-requires-clause-partial
node::Node::grow_once-offer_proof-walk-requires-clause-partial g t c =
    let walk = c.args.walk.now in
    let after = c.descend-step.new.walk in
    let new = node_with (choices_of c.descend-step.new.focus.mover c.descend-step.new.self) in
    let steps = subst (λ (n : PartialTree). AreSteps c.args.stop walk n c.descend-step.result.0 new after) (sym (ap shape c.in-Expanded.is) ∙ c.self.view_is) c.descend-step.ensures.steps in
    let offerable = steps_offerable c.args.stop walk.line walk.room (stage c.args.self.now walk.left) c.descend-step.result.0 (stage new after.left) c.requires.room c.requires.may_grow steps in
    (subst (λ line. IsOfferable line new) (sym c.descend-step.ensures.descends.line) offerable).0

pub node::Node::grow_once-offer_proof-walk-requires-clause-stays : goal.node::Node::grow_once-offer_proof-walk-requires-clause-stays
node::Node::grow_once-offer_proof-walk-requires-clause-stays g t c =
    let walk = c.args.walk.now in
    let after = c.descend-step.new.walk in
    let new = node_with (choices_of c.descend-step.new.focus.mover c.descend-step.new.self) in
    let steps = subst (λ (n : PartialTree). AreSteps c.args.stop walk n c.descend-step.result.0 new after) (sym (ap shape c.in-Expanded.is) ∙ c.self.view_is) c.descend-step.ensures.steps in
    let offerable = steps_offerable c.args.stop walk.line walk.room (stage c.args.self.now walk.left) c.descend-step.result.0 (stage new after.left) c.requires.room c.requires.may_grow steps in
    (subst (λ line. IsOfferable line new) (sym c.descend-step.ensures.descends.line) offerable).1

pub node::Node::grow_once-returns-in-Some-clause-steps : goal.node::Node::grow_once-returns-in-Some-clause-steps
node::Node::grow_once-returns-in-Some-clause-steps g t c =
    let walk = c.args.walk.now in
    let after = c.descend-step.new.walk in
    let new = node_with (choices_of c.descend-step.new.focus.mover c.descend-step.new.self) in
    let steps = subst (λ (n : PartialTree). AreSteps c.args.stop walk n c.descend-step.result.0 new after) (sym (ap shape c.in-Expanded.is) ∙ c.self.view_is) c.descend-step.ensures.steps in
    subst (λ (w : Descent). AreStepsAt c.args.stop (stand_of walk) (stage c.args.self.now walk.left) c.descend-step.result.0 (stage c.offer_proof-walk.new.self w.left))
    (sym c.offer_proof-walk.ensures.walk)
    (subst (λ (tree : PartialTree). AreStepsAt c.args.stop (stand_of walk) (stage c.args.self.now walk.left) c.descend-step.result.0 (stage tree after.left))
    (sym c.offer_proof-walk.ensures.same) steps)

pub node::Node::grow_once-returns-in_default-clause-steps : goal.node::Node::grow_once-returns-in_default-clause-steps
node::Node::grow_once-returns-in_default-clause-steps g t c =
    let walk = c.args.walk.now in
    let after = c.descend-step.new.walk in
    let new = node_with (choices_of c.descend-step.new.focus.mover c.descend-step.new.self) in
    let steps = subst (λ (n : PartialTree). AreSteps c.args.stop walk n c.descend-step.result.0 new after) (sym (ap shape c.in-Expanded.is) ∙ c.self.view_is) c.descend-step.ensures.steps in
    steps

-- ---- the first descent below a node of which no turn has been tried

pub node::Node::grow_untried-invariant_of-self : goal.node::Node::grow_untried-invariant_of-self
node::Node::grow_untried-invariant_of-self g t c =
    let new = node_with (choices_of c.descend-step.new.focus.mover c.descend-step.new.self) in
    (c.proof_and_disproof-proof.ensures new c.descend-step.ensures.kept.pair, c.descend-step.ensures.kept.kept)

pub node::Node::grow_untried-offer_proof-walk-requires-clause-partial : goal.node::Node::grow_untried-offer_proof-walk-requires-clause-partial
node::Node::grow_untried-offer_proof-walk-requires-clause-partial g t c =
    let walk = c.args.walk.now in
    let after = c.descend-step.new.walk in
    let new = node_with (choices_of c.descend-step.new.focus.mover c.descend-step.new.self) in
    let steps = subst (λ (n : PartialTree). AreSteps c.args.stop walk n c.descend-step.result.0 new after) (c.requires.same) c.descend-step.ensures.steps in
    let offerable = steps_offerable c.args.stop walk.line walk.room (stage c.args.self.now walk.left) c.descend-step.result.0 (stage new after.left)
    c.requires.ready.room c.requires.ready.may_grow steps in
    (subst (λ line. IsOfferable line new) (sym c.descend-step.ensures.descends.line) offerable).0

pub node::Node::grow_untried-offer_proof-walk-requires-clause-stays : goal.node::Node::grow_untried-offer_proof-walk-requires-clause-stays
node::Node::grow_untried-offer_proof-walk-requires-clause-stays g t c =
    let walk = c.args.walk.now in
    let after = c.descend-step.new.walk in
    let new = node_with (choices_of c.descend-step.new.focus.mover c.descend-step.new.self) in
    let steps = subst (λ (n : PartialTree). AreSteps c.args.stop walk n c.descend-step.result.0 new after) (c.requires.same) c.descend-step.ensures.steps in
    let offerable = steps_offerable c.args.stop walk.line walk.room (stage c.args.self.now walk.left) c.descend-step.result.0 (stage new after.left)
    c.requires.ready.room c.requires.ready.may_grow steps in
    (subst (λ line. IsOfferable line new) (sym c.descend-step.ensures.descends.line) offerable).1

pub node::Node::grow_untried-returns-in-Some-clause-steps : goal.node::Node::grow_untried-returns-in-Some-clause-steps
node::Node::grow_untried-returns-in-Some-clause-steps g t c =
    let walk = c.args.walk.now in
    let after = c.descend-step.new.walk in
    let new = node_with (choices_of c.descend-step.new.focus.mover c.descend-step.new.self) in
    let steps = subst (λ (n : PartialTree). AreSteps c.args.stop walk n c.descend-step.result.0 new after) (c.requires.same) c.descend-step.ensures.steps in
    subst (λ (w : Descent). AreStepsAt c.args.stop (stand_of walk) (stage c.args.self.now walk.left) c.descend-step.result.0 (stage c.offer_proof-walk.new.self w.left))
    (sym c.offer_proof-walk.ensures.walk)
    (subst (λ (tree : PartialTree). AreStepsAt c.args.stop (stand_of walk) (stage c.args.self.now walk.left) c.descend-step.result.0 (stage tree after.left))
    (sym c.offer_proof-walk.ensures.same) steps)

pub node::Node::grow_untried-returns-in_default-clause-steps : goal.node::Node::grow_untried-returns-in_default-clause-steps
node::Node::grow_untried-returns-in_default-clause-steps g t c =
    let walk = c.args.walk.now in
    let after = c.descend-step.new.walk in
    let new = node_with (choices_of c.descend-step.new.focus.mover c.descend-step.new.self) in
    let steps = subst (λ (n : PartialTree). AreSteps c.args.stop walk n c.descend-step.result.0 new after) (c.requires.same) c.descend-step.ensures.steps in
    steps
