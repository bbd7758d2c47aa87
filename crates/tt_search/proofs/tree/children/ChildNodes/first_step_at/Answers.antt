use Rattle.std.proofs.Common.{◌∙◌, ◌≤◌, length, get_or, take, refl, sym, ap, subst, arith}
use Rattle.std.proofs.lemmas.List.Edits.{get_or-insert_at}
use Rattle.tt_search.specs.PartialTree.{fresh}
use Rattle.tt_search.specs.inside.Edges.{edge_turn}
use Rattle.tt_search.specs.inside.Descending.{Descends}
use Rattle.tt_search.specs.declared.descent.StopAfter.TheVariants.{OneStep}
use Rattle.tt_search.proofs.Indices.{fresh_there, rank_within, take_set}
use Rattle.tt_search.proofs.ChildSteps.{stays_fresh, stays_for_memory, stands_inserted, gone_again, still_whole, put, put_whole}
use Rattle.tt_search.proofs.tree.children.ChildNodes.first_step_at.Goals as goal

pub insert_fresh_node-requires-clause-within : goal.insert_fresh_node-requires-clause-within
insert_fresh_node-requires-clause-within g c =
    omega (arith, c.requires.rank, rank_within c.args.self.now.edges c.args.index, c.requires.whole, ap length c.make_room_for_node.ensures.items, c.make_room_for_node.new.nodes.ok.0)

pub index_mut-requires : goal.index_mut-requires
index_mut-requires g c =
    omega (
      arith,
      c.requires.rank,
      rank_within c.args.self.now.edges c.args.index,
      c.requires.whole,
      ap length c.make_room_for_node.ensures.items,
      c.make_room_for_node.new.nodes.ok.0,
      c.insert_fresh_node.ensures.len,
    )

pub remove-fresh-requires : goal.remove-fresh-requires
remove-fresh-requires g c =
    omega (
      arith,
      c.requires.rank,
      rank_within c.args.self.now.edges c.args.index,
      c.requires.whole,
      ap length c.make_room_for_node.ensures.items,
      c.make_room_for_node.new.nodes.ok.0,
      c.insert_fresh_node.ensures.len,
    )

pub first_step-step-requires-clause-fresh : goal.first_step-step-requires-clause-fresh
first_step-step-requires-clause-fresh g c =
    let nodes = c.make_room_for_node.new.nodes in
    let within : c.args.rank ≤ length nodes.items =
    omega (arith, c.requires.rank, rank_within c.args.self.now.edges c.args.index, c.requires.whole, ap length c.make_room_for_node.ensures.items) in
    c.index_mut.ensures.value
    ∙ ap (λ ts. get_or ts c.args.rank c.index_mut.result.now) c.insert_fresh_node.ensures.items
    ∙ get_or-insert_at nodes.items c.args.rank fresh c.index_mut.result.now within

pub returns-in-Stuck-clause-whole : goal.returns-in-Stuck-clause-whole
returns-in-Stuck-clause-whole g c =
    let x = c.args.self.now in
    let within : c.args.rank ≤ length x.grown.items = omega (arith, c.requires.rank, rank_within x.edges c.args.index, c.requires.whole) in
    let gone = gone_again x.grown.items c.make_room_for_node.new.nodes.items c.insert_fresh_node.new.nodes.items c.args.rank fresh c.first_step-step.new.self within c.make_room_for_node.ensures.items
    c.insert_fresh_node.ensures.items in
    still_whole x.edges x.grown.items _ c.requires.whole c.remove-fresh.ensures.items gone

pub returns-in-Stuck-clause-descends : goal.returns-in-Stuck-clause-descends
returns-in-Stuck-clause-descends g c =
    let leaf = c.first_step-step in
    subst (λ s. Descends g.G.Grants.asked g.G.Grants.source g.S.Store.may_answer OneStep c.args.walk.now c.args.grants.now s leaf.new.walk leaf.new.grants) c.in-Stuck.is leaf.ensures.descends

pub returns-in-Stuck-clause-first_step : goal.returns-in-Stuck-clause-first_step
returns-in-Stuck-clause-first_step g c =
    let x = c.args.self.now in
    let leaf = c.first_step-step in
    let within : c.args.rank ≤ length x.grown.items = omega (arith, c.requires.rank, rank_within x.edges c.args.index, c.requires.whole) in
    let gone = gone_again x.grown.items c.make_room_for_node.new.nodes.items c.insert_fresh_node.new.nodes.items c.args.rank fresh leaf.new.self within c.make_room_for_node.ensures.items
    c.insert_fresh_node.ensures.items in
    stays_fresh c.args.walk.now leaf.new.walk c.args.index x _ leaf.result c.in-Stuck.reason leaf.new.self c.requires.there refl (c.remove-fresh.ensures.items ∙ gone)
    leaf.ensures.taken leaf.ensures.left c.in-Stuck.is

pub returns-then-is_err-clause-whole : goal.returns-then-is_err-clause-whole
returns-then-is_err-clause-whole g c = c.requires.whole ∙ ap length (sym c.make_room_for_node.ensures.items)

pub returns-then-is_err-clause-first_step : goal.returns-then-is_err-clause-first_step
returns-then-is_err-clause-first_step g c =
    stays_for_memory c.args.walk.now c.args.walk.now c.args.index c.args.self.now _ c.requires.there refl refl c.make_room_for_node.ensures.items

pub at-requires : goal.at-requires
at-requires g c = omega (arith, fresh_there c.args.self.now.edges c.args.index c.requires.there)

pub set-requires : goal.set-requires
set-requires g c = omega (arith, fresh_there c.args.self.now.edges c.args.index c.requires.there)

pub returns : goal.returns
returns g c =
    let x = c.args.self.now in
    let leaf = c.first_step-step in
    let within : c.args.rank ≤ length x.grown.items = omega (arith, c.requires.rank, rank_within x.edges c.args.index, c.requires.whole) in
    let row = stands_inserted x.grown.items c.make_room_for_node.new.nodes.items c.insert_fresh_node.new.nodes.items c.args.rank fresh leaf.new.self within c.make_room_for_node.ensures.items
    c.insert_fresh_node.ensures.items in
    let turn = c.with_grown_child-edge.ensures.turn ∙ ap edge_turn c.at.ensures in
    record {
      descends = leaf.ensures.descends;
      kept = leaf.ensures.kept;
      whole = put_whole x.edges _ x.grown.items _ c.args.index c.args.rank c.with_grown_child-edge.result leaf.new.self
          c.requires.there c.requires.whole c.requires.rank
          c.with_grown_child-edge.ensures.edge_state c.set.ensures row;
      before = ap (take c.args.index) c.set.ensures ∙ take_set x.edges c.args.index c.with_grown_child-edge.result;
      first_step = (
        leaf.new.self,
        leaf.ensures.taken,
        leaf.ensures.left,
        put x _ c.args.index c.args.rank c.at.result c.with_grown_child-edge.result leaf.new.self c.requires.there c.requires.whole c.requires.rank
            c.with_grown_child-edge.ensures.edge_state c.set.ensures row turn,
      );
    }
