-- Children as a list.
use Rattle.std.specs.Prelude.{List, [], ◌∷◌}
use Rattle.tt_search.specs.PartialTree.{PartialTree, Children, no_more, more}

abbrev pub children_of : List PartialTree → Children
children_of [] = no_more
children_of (tree ∷ trees) = more tree (children_of trees)
