-- Strategies that are made child by child.
use Rattle.std.proofs.Common.{◌≡◌, ℕ, zero, suc, ◌<◌, ◌≤◌, List, [], ◌∷◌, ◌++◌, length, get_or, refl, sym, ◌∙◌, ap, arith}
use Rattle.tt_game.specs.declared.frame.Side.{Side}
use Rattle.tt_game.specs.declared.turns.Turn.{Turn}
use Rattle.tt_proof.specs.Strategy.{Strategy, Entries, done, pick, none, entry, entries_of}
use Rattle.tt_search.specs.PartialTree.{PartialTree}
use Rattle.tt_search.specs.inside.Children.{children_of}
use Rattle.tt_search.specs.Settled.{strategy_for, pick_at}

-- the entries of a list of strategies, and others behind them
abbrev pub joined : List (Turn × Strategy) → Entries → Entries
joined [] es = es
joined (x ∷ xs) es = entry x.0 x.1 (joined xs es)

-- with no others behind, they are the entries of the list
pub joined_none : (xs : List (Turn × Strategy)) → joined xs none ≡ entries_of xs
joined_none [] = refl
joined_none (x ∷ xs) = ap (entry x.0 x.1) (joined_none xs)

-- one more strategy is one more in front of the others
pub joined_push : (xs : List (Turn × Strategy)) (x : Turn × Strategy) (es : Entries) → joined (xs ++ x ∷ []) es ≡ joined xs (entry x.0 x.1 es)
joined_push [] x es = refl
joined_push (y ∷ ys) x es = ap (entry y.0 y.1) (joined_push ys x es)

-- the pick at an index is the turn there, then the strategy of the child there
pub pick_at_index : (side : Side) (turns : List Turn) (trees : List PartialTree) (i : ℕ) (t : Turn) (d : PartialTree) → i < length turns → i < length trees
    → pick_at side i turns (children_of trees) ≡ pick (get_or turns i t) (strategy_for side (get_or trees i d))
pick_at_index side [] trees i t d l k = absurd (omega arith)
pick_at_index side (u ∷ us) [] i t d l k = absurd (omega arith)
pick_at_index side (u ∷ us) (tree ∷ trees) zero t d l k = refl
pick_at_index side (u ∷ us) (tree ∷ trees) (suc i) t d l k = pick_at_index side us trees i t d (omega arith) (omega arith)

-- past the last turn there is nothing to pick
pub pick_past_turns : (side : Side) (turns : List Turn) (trees : List PartialTree) (i : ℕ) → length turns ≤ i → pick_at side i turns (children_of trees) ≡ done
pick_past_turns side [] trees i l = refl
pick_past_turns side (u ∷ us) [] i l = refl
pick_past_turns side (u ∷ us) (tree ∷ trees) zero l = absurd (omega arith)
pick_past_turns side (u ∷ us) (tree ∷ trees) (suc i) l = pick_past_turns side us trees i (omega arith)

-- ---- what the loops and calls say

module _ (side : Side) (turns : List Turn) (trees : List PartialTree) where
  -- the turn at an index and the strategy of the child there are the pick at the index
  pub picked : (i : ℕ) (t : Turn) (child : PartialTree) (u : Strategy) → t ≡ get_or turns i t → child ≡ get_or trees i child → u ≡ strategy_for side child → i < length turns
      → i < length trees → pick t u ≡ pick_at side i turns (children_of trees)
  picked i t child u a b s l k =
      ap (pick t) (s ∙ ap (strategy_for side) b) ∙ ap (λ v. pick v (strategy_for side (get_or trees i child))) a ∙ sym (pick_at_index side turns trees i t child l k)
