use Rattle.std.proofs.Common.{rules, ◌≡◌, ◌≢◌, ◌<◌, ◌≤◌, ◌-◌, length, get_or, ap, ◌∙◌, arith}
use Rattle.std.proofs.lemmas.Option.{slice_get_within}
use Rattle.std.specs.Arc.{arc_value}
use Rattle.tt_share.proofs.SlotLemmas.{has_key_at}
use Rattle.tt_share.proofs.Newest.{among_all, among_fewer, read_side, none_is_newest, found_is_newest}
use Rattle.tt_game.specs.Keys.{key_of}
use Rattle.tt_search.specs.Stores.{HasKeyAndSide}
use Rattle.tt_share.specs.Table.{slots_with_key}
use Rattle.tt_share.proofs.table.TableState.newest_proof.Goals as goal

pub loop-left-init : goal.loop-left-init
loop-left-init c =
    let slots = c.places-places.ensures ∙ ap (λ k. slots_with_key k c.args.self.now) c.key-key.ensures in
    (slots, omega arith, among_all c.args.line.now c.args.s c.args.self.now c.places-places.result.now slots)

pub loop-left-preserved-else-eq : goal.loop-left-preserved-else-eq
loop-left-preserved-else-eq c =
    let slot = get_or c.places-places.result.now (c.loop-left.left - 1) 0 in
    let inside : slot < length c.self.inside.proofs.items = search rules in
    let is : c.in-Some.p.now ≡ get_or c.self.inside.proofs.items slot c.in-Some.p.now = search rules in
    let side : (arc_value c.in-Some.p.now).side ≢ c.args.s = search rules in
    let le = c.loop-left.invariant.1 in (
      c.loop-left.invariant.0,
      omega (arith, le),
      among_fewer arc_value c.args.line.now c.args.s c.self.inside.proofs.items c.args.self.now c.places-places.result.now c.loop-left.left c.self.view_is
          (λ x at for. side (read_side arc_value c.self.inside.proofs.items slot c.in-Some.p.now x c.args.s inside is at for)) c.loop-left.invariant.2,
    )

pub loop-left-preserved : goal.loop-left-preserved
loop-left-preserved c =
    let slot = get_or c.places-places.result.now (c.loop-left.left - 1) 0 in
    let past : length c.self.inside.proofs.items ≤ slot = search rules in
    let le = c.loop-left.invariant.1 in (
      c.loop-left.invariant.0,
      omega (arith, le),
      among_fewer arc_value c.args.line.now c.args.s c.self.inside.proofs.items c.args.self.now c.places-places.result.now c.loop-left.left c.self.view_is
          (λ x at for. let within = slice_get_within c.self.inside.proofs.items slot x at in absurd (omega (arith, past, within))) c.loop-left.invariant.2,
    )

pub returns : goal.returns
returns c =
    let done = c.loop-left-test.false in
    record {
      newest = none_is_newest c.args.line.now c.args.s c.args.self.now c.places-places.result.now c.loop-left.left (omega (arith, done)) c.loop-left.invariant.2;
      found = tt;
    }

pub returns-then-eq : goal.returns-then-eq
returns-then-eq c =
    let slot = get_or c.places-places.result.now (c.loop-left.left - 1) 0 in
    let left : c.loop-left.left - 1 < length c.places-places.result.now = omega (arith, c.loop-left.invariant.1, c.loop-left-test.true) in
    let inside : slot < length c.self.inside.proofs.items = search rules in
    let is : c.in-Some.p.now ≡ get_or c.self.inside.proofs.items slot c.in-Some.p.now = search rules in
    let side : (arc_value c.in-Some.p.now).side ≡ c.args.s = search rules in
    let answers : HasKeyAndSide c.args.line.now c.args.s (arc_value c.in-Some.p.now) =
    record {
      same_key = has_key_at arc_value (key_of c.args.line.now.frame c.args.line.now.state) c.self.inside.proofs.items c.args.self.now c.in-Some.p.now c.places-places.result.now
          (c.loop-left.left - 1) c.self.view_is c.loop-left.invariant.0 left inside is;
      for_side = side;
    } in
    record {
      newest = found_is_newest arc_value c.args.line.now c.args.s c.self.inside.proofs.items c.args.self.now c.in-Some.p.now c.places-places.result.now c.loop-left.left
          c.self.view_is c.loop-left.invariant.0 left inside is answers c.loop-left.invariant.2;
      found = answers;
    }
