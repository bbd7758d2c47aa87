use Rattle.std.proofs.Common.{arith, rules, ◌≡◌, ◌++◌, ◌∷◌, []}
use Rattle.tt_game.specs.declared.turns.Turn.{Turn}
use Rattle.tt_proof.specs.declared.tree.Tree.{Tree}
use Rattle.tt_proof.proofs.MeasureLemmas.{depth_push, nodes_push}
use Rattle.tt_proof.proofs.measured_tree.ReplyBuilder.push.Goals as goal

pub invariant_of-self-2 : goal.invariant_of-self-2
invariant_of-self-2 c =
    let e : Turn × Tree = (c.args.turn, c.child.inside.tree) in
    let items : c.push.new.self.items ≡ c.self.inside.entries.items ++ (e ∷ []) = search rules in
    let deep = depth_push c.self.inside.entries.items e in
    let many = nodes_push c.self.inside.entries.items e in
    rw (items, deep, many) (
      grind (arith, c.self.invariant, c.child.invariant, c.saturating_add.ensures, c.max-self-inside.ensures),
      grind (arith, c.self.invariant, c.child.invariant, c.saturating_add-self-inside.ensures),
    )
