-- A strategy that wins makes its side force, within its depth.
use Rattle.std.proofs.Common.{◌≡◌, ℕ, zero, suc, ◌+◌, ◌≤◌, inl, inr, None, arith, add-one}
use Rattle.tt_game.specs.Game.{State, IsLegal, after, opponent, winner_of, Forces}
use Rattle.tt_game.specs.declared.frame.Side.{Side}
use Rattle.tt_game.specs.declared.turns.Turn.{Turn}
use Rattle.tt_game.specs.declared.turns.Turn.TheVariants.{Pass}
use Rattle.tt_game.specs.declared.frame.Frame.{Frame}
use Rattle.tt_proof.specs.Strategy.{Strategy, Entries, done, pick, reply, none, entry, depth, depth_of_entries}
use Rattle.tt_proof.specs.Wins.{Wins, WinsBehind}

module _ (side : Side) (f : Frame) where
  -- what a side forces within some turns it forces within more
  forces_more : (m n : ℕ) (s : State) → m ≤ n → Forces f side m s → Forces f side n s
  forces_more zero zero s le h = h
  forces_more zero (suc n) s le h = inl h
  forces_more (suc m) zero s le h = absurd (omega arith)
  forces_more (suc m) (suc n) s le (inl h) = inl h
  forces_more (suc m) (suc n) s le (inr (a, inl (b, (t, l, h)))) = inr (a, inl (b, (t, l, forces_more m n (after f s t) (omega arith) h)))
  forces_more (suc m) (suc n) s le (inr (a, inr (b, h))) = inr (a, inr (b, λ t l. forces_more m n (after f s t) (omega arith) (h t l)))

  -- where the other side is to move, a side forces what it forces within a turn less after each of its turns
  step_forces : (d : ℕ) (s : State) → 1 ≤ d → winner_of f s ≡ None → s.to_move ≡ opponent side →
      ((n : ℕ) → d ≤ n + 1 → (t : Turn) → IsLegal f s t → Forces f side n (after f s t)) → Forces f side d s
  step_forces zero s le a b h = absurd (omega arith)
  step_forces (suc n) s le a b h = inr (a, inr (b, h n (omega arith)))

  -- entries of which one wins have a depth of at least 1
  behind_positive : (es : Entries) (t : Turn) (s : State) → WinsBehind side f es t s → 1 ≤ depth_of_entries es
  behind_positive none t s h = absurd h
  behind_positive (entry t' u es) t s h = omega arith

  mutual
    -- a strategy that wins makes its side force within its depth
    pub win_forces : (u : Strategy) (s : State) → Wins side f u s → Forces f side (depth u) s
    win_forces done s h = h
    win_forces (pick t u) s h = rw add-one (inr (h.0, inl (h.1, (t, h.2, win_forces u (after f s t) h.3))))
    win_forces (reply es) s h =
        step_forces (depth_of_entries es) s (behind_positive es Pass s (h.2 Pass h.0)) h.0 h.1
        (λ n le t l. behind_forces es t s n le (h.2 t l))

    -- after a turn of which some entry wins, the side forces within a turn less than the entries' depth
    pub behind_forces : (es : Entries) (t : Turn) (s : State) (n : ℕ) → depth_of_entries es ≤ n + 1 →
        WinsBehind side f es t s → Forces f side n (after f s t)
    behind_forces none t s n le h = absurd h
    behind_forces (entry t' u es) t s n le (inl h) =
        forces_more (depth u) n (after f s t) (omega arith) (win_forces u (after f s t) h.1)
    behind_forces (entry t' u es) t s n le (inr h) = behind_forces es t s n (omega arith) h
