-- The strategy of a settled tree.
use Rattle.std.specs.Prelude.{ℕ, zero, suc, List, [], ◌∷◌, Bool, true, false}
use Rattle.tt_game.specs.declared.frame.Side.{Side}
use Rattle.tt_game.specs.declared.turns.Turn.{Turn}
use Rattle.tt_proof.specs.Strategy.{Strategy, Entries, done, pick, reply, none, entry}
use Rattle.tt_search.specs.PartialTree.{PartialTree, fresh, won, closed, expanded, Children, no_more, more}
use Rattle.tt_search.specs.Numbers.{is_same_side, child_numbers}
use Rattle.tt_search.specs.MostProving.{first_index_of}

abbrev pub pick_or_reply : Bool → Strategy → Entries → Strategy
pick_or_reply true first all = first
pick_or_reply false first all = reply all

-- the index of the first child that is settled for the side
abbrev pub first_settled_index : Side → Children → ℕ
first_settled_index side children = first_index_of 0 (child_numbers side children)

-- at a won leaf nothing is left to do, and a closed leaf has its strategy; where the side is to move it picks the first
-- child that is settled for it, and elsewhere it has a reply to each turn
abbrev mutual
  pub strategy_for : Side → PartialTree → Strategy
  strategy_for side fresh = done
  strategy_for side (won winner) = done
  strategy_for side (closed winner strategy) = strategy
  strategy_for side (expanded mover turns children) =
      pick_or_reply (is_same_side side mover) (pick_at side (first_settled_index side children) turns children) (replies side turns children)

  pub pick_at : Side → ℕ → List Turn → Children → Strategy
  pick_at side i [] children = done
  pick_at side i (t ∷ ts) no_more = done
  pick_at side zero (t ∷ ts) (more tree children) = pick t (strategy_for side tree)
  pick_at side (suc i) (t ∷ ts) (more tree children) = pick_at side i ts children

  pub replies : Side → List Turn → Children → Entries
  replies side [] children = none
  replies side (t ∷ ts) no_more = none
  replies side (t ∷ ts) (more tree children) = entry t (strategy_for side tree) (replies side ts children)
