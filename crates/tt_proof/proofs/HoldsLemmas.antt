-- Where a strategy wins that may end at life, the other side doesn't force a win; so its side does.
use Rattle.std.proofs.Common.{◌≡◌, ℕ, zero, suc, inl, inr, sym, ◌∙◌}
use Rattle.std.proofs.lemmas.Option.{none-some}
use Rattle.tt_game.specs.declared.frame.Side.{Side}
use Rattle.tt_game.specs.declared.frame.Side.TheVariants.{Attacker, Defender}
use Rattle.tt_game.specs.declared.frame.Frame.{Frame}
use Rattle.tt_game.specs.declared.turns.Turn.{Turn}
use Rattle.tt_game.specs.Game.{State, after, opponent, Forces, game_length_bound}
use Rattle.tt_game.specs.GameLaws.{IsWellFormedState}
use Rattle.tt_game.proofs.SomeSide.{some_side}
use Rattle.tt_life.proofs.LifeLemmas.{held}
use Rattle.tt_proof.specs.EndRules.{at_win_or_life}
use Rattle.tt_proof.specs.Strategy.{Strategy, Entries, done, pick, reply, none, entry}
use Rattle.tt_proof.specs.Wins.{Wins, WinsBehind, WinsOrLives, WinsBehindUnder}

-- a side isn't its opponent
apart : (x : Side) → x ≡ opponent x → ⊥
apart Attacker e = cc
apart Defender e = cc

module _ (side : Side) (f : Frame) where
  mutual
    -- a strategy that ends at wins alone also wins where it may end at life
    pub wins_either : (u : Strategy) (s : State) → Wins side f u s → WinsOrLives side f u s
    wins_either done s w = inl w
    wins_either (pick t u) s w = (w.0, w.1, w.2, wins_either u (after f s t) w.3)
    wins_either (reply es) s w = (w.0, w.1, λ t l. wins_either_behind es t s (w.2 t l))

    wins_either_behind : (es : Entries) (t : Turn) (s : State) → WinsBehind side f es t s → WinsBehindUnder at_win_or_life side f es t s
    wins_either_behind none t s w = w
    wins_either_behind (entry t' u es) t s (inl w) = inl (w.0, wins_either u (after f s t) w.1)
    wins_either_behind (entry t' u es) t s (inr w) = inr (wins_either_behind es t s w)

  mutual
    pub strategy_holds : (u : Strategy) (s : State) (n : ℕ) → WinsOrLives side f u s → Forces f (opponent side) n s → ⊥
    strategy_holds done s n w h = held side f s n w h
    strategy_holds (pick t u) s zero w h = none-some (opponent side) (sym w.0 ∙ h)
    strategy_holds (pick t u) s (suc n) w (inl h) = none-some (opponent side) (sym w.0 ∙ h)
    strategy_holds (pick t u) s (suc n) w (inr (_, inl (its, _))) = apart side (sym w.1 ∙ its)
    strategy_holds (pick t u) s (suc n) w (inr (_, inr (_, all))) = strategy_holds u (after f s t) n w.3 (all t w.2)
    strategy_holds (reply es) s zero w h = none-some (opponent side) (sym w.0 ∙ h)
    strategy_holds (reply es) s (suc n) w (inl h) = none-some (opponent side) (sym w.0 ∙ h)
    strategy_holds (reply es) s (suc n) w (inr (_, inl (_, (t, legal, next)))) = holds_behind es t s n (w.2 t legal) next
    strategy_holds (reply es) s (suc n) w (inr (_, inr (mine, _))) = apart (opponent side) (sym w.1 ∙ mine)

    holds_behind : (es : Entries) (t : Turn) (s : State) (n : ℕ) → WinsBehindUnder at_win_or_life side f es t s → Forces f (opponent side) n (after f s t) → ⊥
    holds_behind none t s n w h = w
    holds_behind (entry t' u es) t s n (inl w) h = strategy_holds u (after f s t) n w.1 h
    holds_behind (entry t' u es) t s n (inr w) h = holds_behind es t s n w h

-- the attacker's strategy never ends at life
module _ (f : Frame) where
  mutual
    pub attacker_wins : (u : Strategy) (s : State) → WinsOrLives Attacker f u s → Wins Attacker f u s
    attacker_wins done s (inl w) = w
    attacker_wins done s (inr (e, _, _)) = cc
    attacker_wins (pick t u) s w = (w.0, w.1, w.2, attacker_wins u (after f s t) w.3)
    attacker_wins (reply es) s w = (w.0, w.1, λ t l. attacker_wins_behind es t s (w.2 t l))

    attacker_wins_behind : (es : Entries) (t : Turn) (s : State) → WinsBehindUnder at_win_or_life Attacker f es t s → WinsBehind Attacker f es t s
    attacker_wins_behind none t s w = w
    attacker_wins_behind (entry t' u es) t s (inl w) = inl (w.0, attacker_wins u (after f s t) w.1)
    attacker_wins_behind (entry t' u es) t s (inr w) = inr (attacker_wins_behind es t s w)

-- so the side of the strategy forces a win at a state of the game
pub strategy_forces : (side : Side) (f : Frame) (u : Strategy) (s : State) → IsWellFormedState f s → WinsOrLives side f u s → Forces f side (game_length_bound f) s
strategy_forces Attacker f u s is w = elim (some_side f s is) [ inl a ↦ a | inr d ↦ absurd (strategy_holds Attacker f u s (game_length_bound f) w d) ]
strategy_forces Defender f u s is w = elim (some_side f s is) [ inl a ↦ absurd (strategy_holds Defender f u s (game_length_bound f) w a) | inr d ↦ d ]
