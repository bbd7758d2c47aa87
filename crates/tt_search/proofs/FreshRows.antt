-- Numbers of children of whom nothing is known.
use Rattle.std.proofs.Common.{◌≡◌, ℕ, suc, zero, ◌<◌, ◌≤◌, ◌/◌, ◌∙◌, List, [], ◌∷◌, length, false, refl, arith}
use Rattle.std.specs.Prelude.{◌+◌, fold, replicate}
use Rattle.tt_game.specs.declared.frame.Side.{Side}
use Rattle.tt_search.specs.PartialTree.{PartialTree}
use Rattle.tt_search.specs.inside.Children.{children_of}
use Rattle.tt_search.specs.Numbers.{cap, least, has_infinite, capped_sum, child_numbers}
use Rattle.tt_search.specs.MostProving.{first_least_index}
use Rattle.tt_search.specs.inside.Edges.{edge_state_of, edge_trees, AreFresh}
use Rattle.tt_search.specs.declared.tree.edges.Edge.{Edge}
use Rattle.tt_search.specs.declared.tree.edges.EdgeState.TheVariants.{Fresh}

small_quotient : (n : ℕ) → n < 512 → n / 512 ≡ 0
small_quotient n h = omega (arith, h)

-- an edge of a number below that of the turns has the mark
pub fresh_edge_state : (e : Edge) → e.code < 512 → edge_state_of e ≡ Fresh
fresh_edge_state e h = rw (small_quotient e.code h) refl

-- each has the number 1
pub ones : (side : Side) (es : List Edge) (grown : List PartialTree) → AreFresh es → child_numbers side (children_of (edge_trees es grown)) ≡ replicate (length es) 1
ones side [] grown h = refl
ones side (e ∷ es) grown h = rw (h.0, ones side es grown h.1) refl

least_more : (n : ℕ) → least (replicate (suc n) 1) ≡ 1
least_more zero = refl
least_more (suc n) = rw (least_more n) refl

-- the least of ones is 1
pub least_ones : (n : ℕ) → 0 < n → least (replicate n 1) ≡ 1
least_ones zero h = omega (arith, h)
least_ones (suc n) h = least_more n

-- and the first one has it
pub first_ones : (n : ℕ) → 0 < n → first_least_index (replicate n 1) ≡ 0
first_ones zero h = refl
first_ones (suc n) h = rw (least_more n) refl

no_infinite : (n : ℕ) → has_infinite (replicate n 1) ≡ false
no_infinite zero = refl
no_infinite (suc n) = no_infinite n

sum_on : (k n : ℕ) → fold ◌+◌ k (replicate n 1) ≡ k + n
sum_on k zero = omega arith
sum_on k (suc n) = sum_on (k + 1) n ∙ omega arith

-- their sum is how many they are
pub capped_ones : (n : ℕ) → n ≤ cap → capped_sum (replicate n 1) ≡ n
capped_ones n small = rw (no_infinite n, sum_on 0 n) (omega arith)
