use Rattle.std.proofs.Common.{rules, ◌≡◌, ◌∙◌, ◌++◌, ◌-◌, ℕ, List, ap, arith, drop, length, length-drop, subst, sym, take}
use Rattle.std.proofs.lemmas.List.{take-append-drop, take_all}
use Rattle.tt_sgf.specs.declared.nodes.Node.{Node}
use Rattle.tsumego_show.proofs.GivenBytes.{laid}
use Rattle.tsumego_show.specs.Written.{IsTextWithNodes}
use Rattle.tsumego_show.proofs.tree_bytes.GivenTree.with_more.Goals as goal

pub returns : goal.returns
returns c =
    let given = c.args.self.now.bytes.now in
    let more = c.args.more.now in
    let at = c.args.at in
    let front = take at given in
    let behind = take (length given - at) (drop at given) in
    let all : behind ≡ drop at given = take_all (length given - at) (drop at given) (omega (arith, length-drop at given)) in
    let plain = c.has_no_parenthesis.ensures (search rules) in
    let read = subst (λ (ns : List Node). IsTextWithNodes c.args.stones ns c.as_slice.result.now) c.nodes.ensures c.in_ok-check_nodes.ensures in (
      (front, more, behind, sym (take-append-drop at given) ∙ ap (λ l. front ++ l) (sym all), search rules, plain, laid front more behind _ (search rules)),
      subst (λ (text : List ℕ). IsTextWithNodes c.args.stones c.args.self.now.main.nodes text) c.as_slice.ensures.value read,
    )
