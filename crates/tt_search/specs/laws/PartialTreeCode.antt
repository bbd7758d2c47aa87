-- How the logic stores a partial tree.
use Rattle.std.specs.Prelude.{◌≡◌, List, refl}
use base.Stored.{Gv, gnil, gcons}
use Rattle.std.specs.Coded.{Coded, coded_list}
use Rattle.tt_game.specs.declared.frame.Side.{Side}
use Rattle.tt_game.specs.declared.turns.Turn.{Turn}
use Rattle.tt_game.specs.contracts.frame.Side as side_type
use Rattle.tt_game.specs.contracts.turns.Turn as turn_type
use Rattle.tt_proof.specs.laws.StrategyCode.{strategy_code}
use Rattle.tt_search.specs.PartialTree.{PartialTree, fresh, won, closed, expanded, Children, no_more, more}

abbrev pub side_code : Coded Side
side_code = side_type.the_row.coded

abbrev pub turns_code : Coded (List Turn)
turns_code = coded_list turn_type.the_row.coded

abbrev mutual
  pub stored : PartialTree → Gv
  stored fresh = gnil
  stored (won side) = gcons gnil (side_code.code side)
  stored (closed side tree) = gcons (gcons gnil gnil) (gcons (side_code.code side) (strategy_code.code tree))
  stored (expanded side turns children) = gcons (gcons (gcons gnil gnil) gnil) (gcons (side_code.code side) (gcons (turns_code.code turns) (stored_children children)))

  pub stored_children : Children → Gv
  stored_children no_more = gnil
  stored_children (more tree children) = gcons (stored tree) (stored_children children)

mutual
  -- a partial tree is known by how it is stored
  pub stored_once : (x y : PartialTree) → stored x ≡ stored y → x ≡ y
  stored_once fresh fresh e = refl
  stored_once fresh (won _) e = cc
  stored_once fresh (closed _ _) e = cc
  stored_once fresh (expanded _ _ _) e = cc
  stored_once (won _) fresh e = cc
  stored_once (won a) (won b) e =
      let h : side_code.code a ≡ side_code.code b = cc in
      let i : a ≡ b = side_code.inj a b h in cc
  stored_once (won _) (closed _ _) e = cc
  stored_once (won _) (expanded _ _ _) e = cc
  stored_once (closed _ _) fresh e = cc
  stored_once (closed _ _) (won _) e = cc
  stored_once (closed a t) (closed b u) e =
      let h : side_code.code a ≡ side_code.code b = cc in
      let k : strategy_code.code t ≡ strategy_code.code u = cc in
      let i : a ≡ b = side_code.inj a b h in
      let j : t ≡ u = strategy_code.inj t u k in cc
  stored_once (closed _ _) (expanded _ _ _) e = cc
  stored_once (expanded _ _ _) fresh e = cc
  stored_once (expanded _ _ _) (won _) e = cc
  stored_once (expanded _ _ _) (closed _ _) e = cc
  stored_once (expanded a ts r) (expanded b us s) e =
      let h : side_code.code a ≡ side_code.code b = cc in
      let k : turns_code.code ts ≡ turns_code.code us = cc in
      let m : stored_children r ≡ stored_children s = cc in
      let i : a ≡ b = side_code.inj a b h in
      let j : ts ≡ us = turns_code.inj ts us k in
      let n : r ≡ s = stored_children_once r s m in cc

  -- and so are children
  pub stored_children_once : (x y : Children) → stored_children x ≡ stored_children y → x ≡ y
  stored_children_once no_more no_more e = refl
  stored_children_once no_more (more _ _) e = cc
  stored_children_once (more _ _) no_more e = cc
  stored_children_once (more t r) (more u s) e =
      let h : stored t ≡ stored u = cc in
      let k : stored_children r ≡ stored_children s = cc in
      let i : t ≡ u = stored_once t u h in
      let j : r ≡ s = stored_children_once r s k in cc

abbrev pub partial_tree_code : Coded PartialTree
partial_tree_code = record { code = stored; inj = stored_once }
