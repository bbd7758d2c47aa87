-- A child as a loop meets it. For private contracts and proofs.
use Rattle.tt_search.specs.PartialTree.{PartialTree, fresh, won}
use Rattle.tt_search.specs.declared.tree.children.Child.{Child}
use Rattle.tt_search.specs.declared.tree.children.Child.TheVariants.{Fresh, Won, Grown}

abbrev pub child_tree : Child → PartialTree
child_tree Fresh = fresh
child_tree (Won side) = won side
child_tree (Grown node) = node.now
