-- Tests of a game as definitions say them, and node after node.
use Rattle.std.proofs.Common.{◌≡◌, ℕ, ◌+◌, ◌≤◌, Bool, List, [], ◌∷◌, Option, IsTrue, refl, ap, arith}
use Rattle.tt_board.specs.declared.Colour.{Colour}
use Rattle.std.proofs.lemmas.Bool.{le-leb, leb-true}
use Rattle.std.proofs.Common.{min, leb}
use Rattle.tt_game.specs.Superko.{repeats, repeats_is_exact}
use Rattle.tt_game.specs.declared.records.GameSoFar.{GameSoFar}
use Rattle.tt_game.specs.Records.{and_then, apply_nodes, at_node, step_node}
use Rattle.tt_game.specs.declared.faults.GameFault.{GameFault}
use Rattle.tt_sgf.specs.declared.nodes.Node.{Node}
use Rattle.std.specs.Prelude.{Ok, Err}
use Rattle.tt_game.specs.GameHistory.{IsInHistory}
use Rattle.tt_game.proofs.FrameLemmas.{bools}

-- the test of a repeat is what says exactly whether the colouring has been
pub been_is : (h : List (List (Option Colour))) (c : List (Option Colour)) (r : Bool) → (IsTrue r → IsInHistory h c) × (IsInHistory h c → IsTrue r) → r ≡ repeats h c
been_is h c r facts = bools r (repeats h c) (λ y. (repeats_is_exact h c).1 (facts.0 y)) (λ y. facts.1 ((repeats_is_exact h c).0 y))

-- whether two counts together reach k, 2 at most, is known by both cut off at 2
counted : (k a b : ℕ) → k ≤ 2 → leb k (min 2 a + min 2 b) ≡ leb k (a + b)
counted k a b h = bools _ _ (λ y. le-leb k (a + b) (omega (arith, leb-true k (min 2 a + min 2 b) y))) (λ y. le-leb k (min 2 a + min 2 b) (omega (arith, h, leb-true k (a + b) y)))

-- so it is for one, and for two
pub counted_one : (a b : ℕ) → leb 1 (min 2 a + min 2 b) ≡ leb 1 (a + b)
counted_one a b = counted 1 a b (omega arith)

pub counted_two : (a b : ℕ) → leb 2 (min 2 a + min 2 b) ≡ leb 2 (a + b)
counted_two a b = counted 2 a b (omega arith)

-- a run over nodes: at its end what it came to, on from a node, and up to a refused one
module _ (k : ℕ) (s : GameSoFar) where
  pub run-nil : apply_nodes k s [] ≡ Ok s
  unfolding apply_nodes
  run-nil = refl

  pub run-step : (t : GameSoFar) (n : Node) (ns : List Node) → step_node (at_node (k + 1) s) n ≡ Ok t → apply_nodes k s (n ∷ ns) ≡ apply_nodes (k + 1) t ns
  unfolding apply_nodes
  run-step t n ns e = ap (λ r. and_then r (λ x. apply_nodes (k + 1) x ns)) e

  pub run-stop : (e : GameFault) (n : Node) (ns : List Node) → step_node (at_node (k + 1) s) n ≡ Err e → apply_nodes k s (n ∷ ns) ≡ Err e
  unfolding apply_nodes
  run-stop e n ns h = ap (λ r. and_then r (λ x. apply_nodes (k + 1) x ns)) h
