-- Whether a turn is legal is decided, part by part.
use Rattle.std.specs.Prelude.{◌≡◌, ℕ, ◌<◌, Option, Some, None, Bool, true, false, IsTrue}
use Rattle.std.specs.FinSet as set
use Rattle.std.proofs.Common.{inl, inr, refl, arith}
use Rattle.std.proofs.lemmas.Bool.{cases_lt, false≢true}
use Rattle.tt_board.specs.Decided.{Decision, decide_both, decide_not, decide_same_entry}
use Rattle.tt_board.specs.Reach.{entry_at}
use Rattle.tt_sgf.specs.Sizes.{point_count}
use Rattle.tt_game.specs.declared.frame.Side.{Side}
use Rattle.tt_game.specs.declared.frame.Frame.{Frame}
use Rattle.tt_game.specs.declared.turns.Turn.{Turn}
use Rattle.tt_game.specs.declared.turns.Turn.TheVariants.{Play, Pass}
use Rattle.tt_game.specs.Game.{State, history, winner_of, colouring_after_play, IsLegal}
use Rattle.tt_game.specs.Superko.{decide_in_history}

-- whether nobody has won
decide_nobody_won : (w : Option Side) → Decision (w ≡ None)
decide_nobody_won None = inl refl
decide_nobody_won (Some side) = inr (λ e. cc)

-- whether a number is below another
below : (a b : ℕ) → Decision (a < b)
below a b = elim (cases_lt a b) [ inl h ↦ inl h | inr h ↦ inr (λ l. omega arith) ]

-- whether a test is true
decide_true : (b : Bool) → Decision (IsTrue b)
decide_true true = inl refl
decide_true false = inr false≢true

-- the turn is legal, or it isn't
pub decide_legal : (f : Frame) (s : State) (t : Turn) → Decision (IsLegal f s t)
decide_legal f s Pass = decide_nobody_won (winner_of f s)
decide_legal f s (Play p) =
    elim (decide_both (decide_nobody_won (winner_of f s)) (decide_both (below p (point_count f.size))
    (decide_both (decide_same_entry (entry_at s.present p) None) (decide_both (decide_true (set.contains f.region p)) (decide_not (decide_in_history (history s) (colouring_after_play f s p))))))) [
      | inl h ↦ inl (h.0, h.1.0, h.1.1.0, h.1.1.1.0, h.1.1.1.1)
      | inr isnt ↦ inr (λ l. isnt (l.0, (l.1, (l.2, (l.3, l.4)))))
    ]
