-- The plays among the edges of a node.
use Rattle.std.proofs.Common.{◌≡◌, ◌⊎◌, inl, inr, ℕ, zero, suc, ◌<◌, List, [], ◌∷◌, length, get_or, refl, sym, subst, ◌∙◌, arith}
use Rattle.std.proofs.lemmas.Bool.{cases_eq, ne_eqb}
use Rattle.std.specs.Bool.{IsTrue}
use Rattle.std.specs.Cmp.{nat_cmp_total, unsigned_tied}
use Rattle.std.specs.FinSet as set
use Rattle.tt_board.specs.Stones.{PointNumberSet}
use Rattle.tt_game.specs.declared.frame.Frame.{Frame}
use Rattle.tt_game.specs.declared.turns.Turn.TheVariants.{Play}
use Rattle.tt_game.specs.Game.{State, IsLegal}
use Rattle.tt_game.specs.laws.TurnLaws.{EachIsLegal}
use Rattle.tt_proof.specs.KeptFootprints.{AreLegalPlays}
use Rattle.tt_search.specs.inside.Edges.{edge_turn, edge_turns}
use Rattle.tt_search.specs.declared.tree.edges.Edge.{Edge}

-- each of the edges' turns is legal
pub legal_at : (f : Frame) (s : State) (es : List Edge) (i : ℕ) (e : Edge) → EachIsLegal f s (edge_turns es) → i < length es → IsLegal f s (edge_turn (get_or es i e))
legal_at f s [] i e h lt = absurd (omega (arith, lt))
legal_at f s (x ∷ es) zero e h lt = h.0
legal_at f s (x ∷ es) (suc i) e h lt = legal_at f s es i e h.1 (omega (arith, lt))

-- what is in a set with one more point was in it, or is that point
in_with : (points : PointNumberSet) (n q : ℕ) → IsTrue (set.contains (set.insert points n) q) → (q ≡ n) ⊎ IsTrue (set.contains points q)
in_with points n q there = elim (cases_eq q n) [
  | inl e ↦ inl e
  | inr d ↦ inr (sym (set.contains-insert nat_cmp_total points n q ∙ rw (unsigned_tied q n, ne_eqb q n d) refl) ∙ there)
]

-- one more legal play keeps all plays legal
pub legal_with : (f : Frame) (s : State) (points : PointNumberSet) (n : ℕ) → AreLegalPlays f s points → IsLegal f s (Play n) → AreLegalPlays f s (set.insert points n)
legal_with f s points n all one q there = elim (in_with points n q there) [
  | inl e ↦ subst (λ k. IsLegal f s (Play k)) (sym e) one
  | inr old ↦ all q old
]
