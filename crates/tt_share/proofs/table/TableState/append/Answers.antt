use Rattle.std.proofs.Common.{map, rules, arith}
use Rattle.std.specs.Arc.{arc_value}
use Rattle.std.proofs.lemmas.List.{length-map}
use Rattle.tt_share.proofs.SlotLemmas.{index-snoc, nodes-snoc, map-snoc}
use Rattle.tt_share.proofs.table.TableState.append.Goals as goal

pub invariant_of-self-2 : goal.invariant_of-self-2
invariant_of-self-2 c =
    let noted = c.in_ok-add_slot_to_index.ensures.ok in
    let m = map-snoc arc_value c.self.inside.proofs.items c.reserve.new.self.items c.push_reserved.new.self.items c.args.p c.reserve.ensures.items c.push_reserved.ensures.items in
    let added = c.saturating_add-self-inside.ensures in
    let size = c.requires.size in
    rw m (
      index-snoc c.self.inside.index c.add_slot_to_index.new.index (map arc_value c.self.inside.proofs.items) (arc_value c.args.p) c.args.key.now c.len-slot.result
          (search (rules, length-map)) c.requires.key c.self.invariant.0 noted,
      nodes-snoc (map arc_value c.self.inside.proofs.items) (arc_value c.args.p) c.self.inside.total c.saturating_add-self-inside.result c.self.invariant.1 (grind (arith, added, size)),
    )
