-- A step keeps what is true of every search.
use Rattle.std.proofs.Common.{◌≡◌, ℕ, suc, ◌+◌, ◌-◌, ◌≤◌, inl, inr, None, sym, ap, subst, arith}
use Rattle.tt_sgf.specs.declared.size.Size.{Size}
use Rattle.tt_game.specs.Game.{State, winner_of}
use Rattle.tt_game.specs.Line.{LineWithUndo}
use Rattle.tt_search.specs.PartialTree.{PartialTree, fresh, won, closed, expanded, Children, no_more, more}
use Rattle.tt_search.specs.Numbers.{count, IsUndecided}
use Rattle.tt_search.specs.MostProving.{most_proving_state, most_proving_depth}
use Rattle.tt_search.specs.Growing.{expansion, IsPartialTree, IsExpansion, IsClosing}
use Rattle.tt_search.specs.inside.Within.{StaysWithin, AllStayWithin}
use Rattle.tt_search.specs.inside.Taken.{Taken}
use Rattle.tt_search.specs.inside.Searching.{IsSearch}
use Rattle.tt_search.specs.inside.Walking.{Stand, Stage, stand, MayGrow}
use Rattle.tt_search.specs.declared.limits.Limits.{Limits}
use Rattle.tt_search.specs.declared.limits.Step.{Step}
use Rattle.tt_search.specs.declared.limits.Step.TheVariants.{Expanded, Closed, Settled, Stuck}
use Rattle.tt_search.specs.declared.limits.Reason.TheVariants.{Budget, Depth, Total, Memory}
use Rattle.tt_search.proofs.Grown.{count_grown, leaf_open, partial_grown, stays_grown, expansion_partial, expansion_stays, expansion_count}

module _ (at : Stand) (limits : Limits) (old new : Stage) (is : IsSearch at limits old) (u : IsUndecided old.tree) where
  abbrev leaf : State
  leaf = most_proving_state at.frame at.state old.tree

  -- an expansion that takes one off what the budget has left keeps what is true of every search
  pub search_expanded : old.left ≡ new.left + 1 → IsExpansion at.room at.frame at.state old.tree new.tree → IsSearch at limits new
  search_expanded l e = record {
    room = is.room;
    counted = omega (arith, l, ap count e.1, count_grown (expansion at.frame leaf) old.tree u, expansion_count at.frame leaf, is.counted);
    partial =
        subst (IsPartialTree at.frame at.state) (sym e.1)
        (partial_grown at.frame at.state (expansion at.frame leaf) old.tree is.partial (expansion_partial at.frame leaf (leaf_open at.frame at.state old.tree is.partial u)));
    stays =
        subst (StaysWithin at.frame.size at.room) (sym e.1)
        (stays_grown at.frame.size at.room (expansion at.frame leaf) old.tree is.stays (expansion_stays at.frame.size (at.room - most_proving_depth old.tree) at.frame leaf (omega (arith, e.0))));
    grown =
        let expands = subst (λ r. IsExpansion r at.frame at.state old.tree new.tree) is.room e in
        (suc (is.grown.0), (old.tree, is.grown.1, (u, inl (omega (arith, is.counted, l), expands))));
  }

  -- so does a closing that takes nothing off
  pub search_closed : old.left ≡ new.left → IsClosing at.room at.frame at.state old.tree new.tree → IsSearch at limits new
  search_closed l (side, strategy, w, o, d, e) = record {
    room = is.room;
    counted = omega (arith, l, ap count e, count_grown (closed side strategy) old.tree u, is.counted);
    partial = subst (IsPartialTree at.frame at.state) (sym e) (partial_grown at.frame at.state (closed side strategy) old.tree is.partial w);
    stays = subst (StaysWithin at.frame.size at.room) (sym e) (stays_grown at.frame.size at.room (closed side strategy) old.tree is.stays (omega (arith, d), o));
    grown =
        let closes = subst (λ r. IsClosing r at.frame at.state old.tree new.tree) is.room (side, strategy, w, o, d, e) in
        (suc (is.grown.0), (old.tree, is.grown.1, (u, inr closes)));
  }

-- a partial tree that reaches no deeper than the room
abbrev pub IsTreeWithin : Stand → PartialTree → Type 0
IsTreeWithin at tree = IsPartialTree at.frame at.state tree × StaysWithin at.frame.size at.room tree

-- a step keeps a partial tree one, within its room
pub taken_keeps : (at : Stand) (old : Stage) (step : Step) (new : PartialTree) → MayGrow at old.tree → Taken at old step new → IsTreeWithin at new
taken_keeps at old Expanded new m (b, e) =
    let leaf : State = most_proving_state at.frame at.state old.tree in (
      subst (IsPartialTree at.frame at.state) (sym e.1)
          (partial_grown at.frame at.state (expansion at.frame leaf) old.tree m.partial (expansion_partial at.frame leaf (leaf_open at.frame at.state old.tree m.partial m.undecided))),
      subst (StaysWithin at.frame.size at.room) (sym e.1)
          (stays_grown at.frame.size at.room (expansion at.frame leaf) old.tree m.stays (expansion_stays at.frame.size (at.room - most_proving_depth old.tree) at.frame leaf (omega (arith, e.0)))),
    )
taken_keeps at old Closed new m (side, strategy, w, o, d, e) = (
  subst (IsPartialTree at.frame at.state) (sym e) (partial_grown at.frame at.state (closed side strategy) old.tree m.partial w),
  subst (StaysWithin at.frame.size at.room) (sym e) (stays_grown at.frame.size at.room (closed side strategy) old.tree m.stays (omega (arith, d), o)),
)
taken_keeps at old Settled new m h = absurd h
taken_keeps at old (Stuck Budget) new m h = subst (IsTreeWithin at) (sym h.1) (m.partial, m.stays)
taken_keeps at old (Stuck Depth) new m h = subst (IsTreeWithin at) (sym h.2) (m.partial, m.stays)
taken_keeps at old (Stuck Total) new m h = subst (IsTreeWithin at) (sym h.2) (m.partial, m.stays)
taken_keeps at old (Stuck Memory) new m h = subst (IsTreeWithin at) (sym h) (m.partial, m.stays)

-- an expansion counts one more node
pub counted_expanded : (at : Stand) (old new : PartialTree) → IsUndecided old → IsExpansion at.room at.frame at.state old new → count new ≡ count old + 1
counted_expanded at old new u e =
    let leaf : State = most_proving_state at.frame at.state old in
    omega (arith, ap count e.1, count_grown (expansion at.frame leaf) old u, expansion_count at.frame leaf)

-- a closing counts no more
pub counted_closed : (at : Stand) (old new : PartialTree) → IsUndecided old → IsClosing at.room at.frame at.state old new → count new ≡ count old
counted_closed at old new u (side, strategy, w, o, d, e) = omega (arith, ap count e, count_grown (closed side strategy) old u)

-- ---- what is offered to a store

-- what stays within a room stays within a greater one
mutual
  pub stays_in_more : (size : Size) (room more' : ℕ) (tree : PartialTree) → room ≤ more' → StaysWithin size room tree → StaysWithin size more' tree
  stays_in_more size room more' fresh l h = tt
  stays_in_more size room more' (won side) l h = tt
  stays_in_more size room more' (closed side strategy) l h = (omega (arith, l, h.0), h.1)
  stays_in_more size room more' (expanded mover turns children) l h = (omega (arith, l, h.0), all_stay_in_more size (room - 1) (more' - 1) children (omega (arith, l)) h.1)

  -- so do all children
  all_stay_in_more : (size : Size) (room more' : ℕ) (children : Children) → room ≤ more' → AllStayWithin size room children → AllStayWithin size more' children
  all_stay_in_more size room more' no_more l h = tt
  all_stay_in_more size room more' (more tree children) l h = (stays_in_more size room more' tree l h.0, all_stay_in_more size room more' children l h.1)

-- a tree may be offered where the line stands
abbrev pub IsOfferable : LineWithUndo → PartialTree → Type 0
IsOfferable line tree = IsPartialTree line.frame line.state tree × StaysWithin line.frame.size 512 tree

-- a tree within a room of at most 512 turns may be offered
pub offerable : (line : LineWithUndo) (room : ℕ) (tree : PartialTree) → room ≤ 512 → IsTreeWithin (stand line room) tree → IsOfferable line tree
offerable line room tree l h = (h.0, stays_in_more line.frame.size room 512 tree l h.1)

-- an expanded leaf may be offered
pub expansion_offerable : (line : LineWithUndo) (new : PartialTree) → winner_of line.frame line.state ≡ None → new ≡ expansion line.frame line.state → IsOfferable line new
expansion_offerable line new nobody is =
    subst (IsOfferable line) (sym is) (expansion_partial line.frame line.state nobody, expansion_stays line.frame.size 512 line.frame line.state (omega arith))
