use Rattle.std.proofs.Common.{rules, ◌≡◌, ◌+◌, ◌^◌, ◌<◌, ◌≤◌, refl, sym, subst, arith}
use Rattle.tt_game.specs.Line.{LineWithUndo}
use Rattle.tt_search.specs.Numbers.{count, IsUndecided}
use Rattle.tt_search.specs.inside.Walking.{stage, stand_of}
use Rattle.tt_search.specs.SearchState.{SearchState}
use Rattle.tt_search.specs.inside.Searching.{IsSearch}
use Rattle.tt_search.specs.inside.Advanced.{IsAdvanced}
use Rattle.tt_search.specs.declared.limits.Step.TheVariants.{Settled}
use Rattle.tt_search.proofs.Asking.{asked_once}
use Rattle.tt_search.proofs.Steady.{same_stand}
use Rattle.tt_search.proofs.Advanced.{steps_with, advanced, advanced_settled}
use Rattle.tt_search.proofs.search.Search.advance.Goals as goal

pub returns-then-proof-eq0-clause-advanced : goal.returns-then-proof-eq0-clause-advanced
returns-then-proof-eq0-clause-advanced g c =
    let settled : IsUndecided c.args.self.now.tree → ⊥ = search rules in
    advanced_settled c.args.stop c.args.self.now settled

pub invariant_of-self : goal.invariant_of-self
invariant_of-self g c =
    let now = c.self.inside in
    let u : IsUndecided now.root = search rules in
    let new = stage c.grow.new.self c.grow.new.walk.left in
    let after = steps_with (stand_of now.walk) now.limits c.args.stop (stage now.root now.walk.left) c.grow.result new c.self.invariant u c.grow.ensures.steps in
    subst (λ at. IsSearch at now.limits new) (sym (same_stand c.grow.new.walk now.walk c.grow.ensures.descends.line c.grow.ensures.descends.room)) after

pub returns-clause-advanced : goal.returns-clause-advanced
returns-clause-advanced g c =
    let now = c.self.inside in
    let u : IsUndecided now.root = search rules in
    let new = stage c.grow.new.self c.grow.new.walk.left in
    let search = advanced now.walk.line now.walk.room now.limits c.args.stop (stage now.root now.walk.left) c.grow.result new c.self.invariant u c.grow.ensures.steps in
    subst (λ (l : LineWithUndo). IsAdvanced c.args.stop c.args.self.now c.grow.result (record { line = l; limits = now.limits; tree = c.grow.new.self })) (sym c.grow.ensures.descends.line)
    (subst (λ (old : SearchState). IsAdvanced c.args.stop old c.grow.result (record { line = now.walk.line; limits = now.limits; tree = c.grow.new.self })) c.self.view_is search)

pub grow-requires : goal.grow-requires
grow-requires g c =
    let now = c.self.inside in
    let u : IsUndecided now.root = search rules in
    let granted = (g.G.Grants.asked c.args.grants.now).granted in
    let room = subst (λ (s : SearchState). granted + s.limits.budget < 2 ^ 64 + count s.tree) (sym c.self.view_is) c.requires.grants in
    record {
      may_grow = record { undecided = u; partial = c.self.invariant.partial; stays = c.self.invariant.stays };
      room = search rules;
      grants = omega (arith, c.self.invariant.counted, room);
    }

pub returns-then-proof-eq0-clause-asked : goal.returns-then-proof-eq0-clause-asked
returns-then-proof-eq0-clause-asked g c = let asked = g.G.Grants.asked c.args.grants.now in asked_once c.args.stop asked asked Settled refl

pub returns-clause-spent : goal.returns-clause-spent
returns-clause-spent g c =
    let now = c.self.inside in
    let u : IsUndecided now.root = search rules in
    let new = stage c.grow.new.self c.grow.new.walk.left in
    let after = steps_with (stand_of now.walk) now.limits c.args.stop (stage now.root now.walk.left) c.grow.result new c.self.invariant u c.grow.ensures.steps in
    let before = (g.G.Grants.asked c.args.grants.now).granted in
    let granted = (g.G.Grants.asked c.grow.new.grants).granted in
    let spent : granted + count now.root ≡ before + count c.grow.new.self = omega (arith, c.self.invariant.counted, after.counted, c.grow.ensures.descends.granted) in
    subst (λ (s : SearchState). granted + count s.tree ≡ before + count c.grow.new.self) c.self.view_is spent

pub returns-then-proof-eq0-clause-few : goal.returns-then-proof-eq0-clause-few
returns-then-proof-eq0-clause-few g c =
    let now = c.self.inside in
    let few : count now.root ≤ now.limits.budget = omega (arith, c.self.invariant.counted) in
    subst (λ (s : SearchState). count s.tree ≤ s.limits.budget) c.self.view_is few

pub returns-clause-few : goal.returns-clause-few
returns-clause-few g c =
    let now = c.self.inside in
    let u : IsUndecided now.root = search rules in
    let new = stage c.grow.new.self c.grow.new.walk.left in
    let after = steps_with (stand_of now.walk) now.limits c.args.stop (stage now.root now.walk.left) c.grow.result new c.self.invariant u c.grow.ensures.steps in
    omega (arith, after.counted)
