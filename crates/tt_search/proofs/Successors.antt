-- The expansion of a node from its successors.
use Rattle.std.proofs.Common.{◌≡◌, ℕ, ◌+◌, List, [], ◌∷◌, ◌++◌, map, Option, refl, sym, ◌∙◌, ap}
use Rattle.std.proofs.lemmas.List.{append_assoc}
use Rattle.tt_game.specs.declared.frame.Side.{Side}
use Rattle.tt_game.specs.declared.frame.Frame.{Frame}
use Rattle.tt_game.specs.declared.turns.Turn.{Turn}
use Rattle.tt_game.specs.declared.turns.Turn.TheVariants.{Play, Pass}
use Rattle.tt_game.specs.Turns.{TurnWithWinner, legal_turns, turn_with_winner, turns_with_winners, turns_with_winners_from}
use Rattle.tt_game.specs.Game.{State, after, winner_of}
use Rattle.tt_search.specs.PartialTree.{PartialTree, more, expanded}
use Rattle.tt_search.specs.inside.Children.{children_of}
use Rattle.tt_search.specs.declared.tree.edges.Edge.{Edge}
use Rattle.tt_search.specs.inside.Edges.{edge_turn, edge_state_of, tree_of, edge_turns, edge_trees}
use Rattle.tt_search.proofs.Indices.{turns_push, trees_push}
use Rattle.tt_search.specs.Growing.{leaf_with_winner, new_leaf, new_leaves, expansion}

-- the turns of the successors of turns are these turns
turns_back : (f : Frame) (s : State) (ts : List Turn) → map (λ x. x.turn) (map (turn_with_winner f s) ts) ≡ ts
turns_back f s [] = refl
turns_back f s (t ∷ ts) = ap (λ us. t ∷ us) (turns_back f s ts)

-- and leaves for their winners are the new leaves
leaves_back : (f : Frame) (s : State) (ts : List Turn) → children_of (map (λ x. leaf_with_winner x.winner) (map (turn_with_winner f s) ts)) ≡ new_leaves f s ts
leaves_back f s [] = refl
leaves_back f s (t ∷ ts) = ap (more (new_leaf f (after f s t))) (leaves_back f s ts)

-- the turns of a state's successors are its legal turns
pub turns_of-successors : (f : Frame) (s : State) → map (λ x. x.turn) (turns_with_winners f s) ≡ legal_turns f s
unfolding turns_with_winners
turns_of-successors f s = turns_back f s (legal_turns f s)

-- and leaves for their winners are the new leaves of an expansion
pub leaves_of-successors : (f : Frame) (s : State) → children_of (map (λ x. leaf_with_winner x.winner) (turns_with_winners f s)) ≡ new_leaves f s (legal_turns f s)
unfolding turns_with_winners
leaves_of-successors f s = leaves_back f s (legal_turns f s)

-- what the children of the successors make is the expansion
pub expansion_of : (f : Frame) (s : State) (mover : Side) (xs : List TurnWithWinner) (turns : List Turn) (leaves : List PartialTree) → mover ≡ s.to_move → xs ≡ turns_with_winners f s
    → turns ≡ map (λ x. x.turn) xs → leaves ≡ map (λ x. leaf_with_winner x.winner) xs → expanded mover turns (children_of leaves) ≡ expansion f s
expansion_of f s mover xs turns leaves m e t l =
    ap (λ side. expanded side turns (children_of leaves)) m
    ∙ ap (λ ts. expanded s.to_move ts (children_of leaves)) (t ∙ ap (map (λ x. x.turn)) e ∙ turns_of-successors f s)
    ∙ ap (expanded s.to_move (legal_turns f s)) (ap children_of (l ∙ ap (map (λ x. leaf_with_winner x.winner)) e) ∙ leaves_of-successors f s)

-- what was made, and what is left, is the whole
shifted : {X : Type 0} (done made rest next whole : List X) (x : X) → made ≡ done ++ x ∷ [] → next ≡ x ∷ rest → done ++ next ≡ whole → made ++ rest ≡ whole
shifted done made rest next whole x is here all =
    ap (λ ys. ys ++ rest) is ∙ append_assoc done (x ∷ []) rest ∙ ap (λ ys. done ++ ys) (sym here) ∙ all

-- an edge to the next legal play: the turns behind the edges, and those left, are the legal ones
pub turns_more : (f : Frame) (s : State) (es made : List Edge) (e : Edge) (from p n : ℕ) → made ≡ es ++ e ∷ [] → edge_turn e ≡ Play p
    → turns_with_winners_from f s from ≡ turn_with_winner f s (Play p) ∷ turns_with_winners_from f s (p + 1) → n ≡ p + 1
    → edge_turns es ++ map (λ x. x.turn) (turns_with_winners_from f s from) ≡ legal_turns f s → edge_turns made ++ map (λ x. x.turn) (turns_with_winners_from f s n) ≡ legal_turns f s
turns_more f s es made e from p n is turn next here all =
    shifted (edge_turns es) (edge_turns made) _ (map (λ x. x.turn) (turns_with_winners_from f s from)) (legal_turns f s) (Play p)
    (ap edge_turns is ∙ turns_push es e ∙ ap (λ t. edge_turns es ++ t ∷ []) turn)
    (ap (map (λ x. x.turn)) next ∙ ap (λ k. Play p ∷ map (λ x. x.turn) (turns_with_winners_from f s k)) (sym here))
    all

-- and so are the new leaves
pub leaves_more : (f : Frame) (s : State) (es made : List Edge) (e : Edge) (winner : Option Side) (from p n : ℕ) → made ≡ es ++ e ∷ [] → tree_of (edge_state_of e) [] ≡ leaf_with_winner winner
    → winner ≡ winner_of f (after f s (Play p)) → turns_with_winners_from f s from ≡ turn_with_winner f s (Play p) ∷ turns_with_winners_from f s (p + 1) → n ≡ p + 1
    → edge_trees es [] ++ map (λ x. leaf_with_winner x.winner) (turns_with_winners_from f s from) ≡ map (λ x. leaf_with_winner x.winner) (turns_with_winners f s)
    → edge_trees made [] ++ map (λ x. leaf_with_winner x.winner) (turns_with_winners_from f s n) ≡ map (λ x. leaf_with_winner x.winner) (turns_with_winners f s)
leaves_more f s es made e winner from p n is tree won next here all =
    shifted (edge_trees es []) (edge_trees made []) _ (map (λ x. leaf_with_winner x.winner) (turns_with_winners_from f s from)) (map (λ x. leaf_with_winner x.winner) (turns_with_winners f s))
    (leaf_with_winner (winner_of f (after f s (Play p))))
    (ap (λ ys. edge_trees ys []) is ∙ trees_push es e ∙ ap (λ t. edge_trees es [] ++ t ∷ []) (tree ∙ ap leaf_with_winner won))
    (ap (map (λ x. leaf_with_winner x.winner)) next
    ∙ ap (λ k. leaf_with_winner (winner_of f (after f s (Play p))) ∷ map (λ x. leaf_with_winner x.winner) (turns_with_winners_from f s k)) (sym here))
    all

-- the edge to a pass ends them: the turns are the legal ones
pub turns_last : (f : Frame) (s : State) (es made : List Edge) (e : Edge) (from : ℕ) → made ≡ es ++ e ∷ [] → edge_turn e ≡ Pass → turns_with_winners_from f s from ≡ turn_with_winner f s Pass ∷ []
    → edge_turns es ++ map (λ x. x.turn) (turns_with_winners_from f s from) ≡ legal_turns f s → edge_turns made ≡ map (λ x. x.turn) (turns_with_winners f s)
turns_last f s es made e from is turn next all =
    ap edge_turns is ∙ turns_push es e ∙ ap (λ t. edge_turns es ++ t ∷ []) turn ∙ ap (λ xs. edge_turns es ++ map (λ x. x.turn) xs) (sym next) ∙ all ∙ sym (turns_of-successors f s)

-- and the leaves are new leaves for all successors
pub leaves_last : (f : Frame) (s : State) (es made : List Edge) (e : Edge) (winner : Option Side) (from : ℕ) → made ≡ es ++ e ∷ [] → tree_of (edge_state_of e) [] ≡ leaf_with_winner winner
    → winner ≡ winner_of f (after f s Pass) → turns_with_winners_from f s from ≡ turn_with_winner f s Pass ∷ []
    → edge_trees es [] ++ map (λ x. leaf_with_winner x.winner) (turns_with_winners_from f s from) ≡ map (λ x. leaf_with_winner x.winner) (turns_with_winners f s)
    → edge_trees made [] ≡ map (λ x. leaf_with_winner x.winner) (turns_with_winners f s)
leaves_last f s es made e winner from is tree won next all =
    ap (λ ys. edge_trees ys []) is ∙ trees_push es e ∙ ap (λ t. edge_trees es [] ++ t ∷ []) (tree ∙ ap leaf_with_winner won)
    ∙ ap (λ xs. edge_trees es [] ++ map (λ x. leaf_with_winner x.winner) xs) (sym next) ∙ all
