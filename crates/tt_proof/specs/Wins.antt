-- When a strategy wins: a winning strategy tree, as game-tree search has it (Allis, Proof-number search).
use Rattle.std.specs.Prelude.{◌≡◌, ◌⊎◌, None}
use Rattle.tt_game.specs.Game.{State, IsLegal, after, opponent, winner_of}
use Rattle.tt_game.specs.declared.frame.Side.{Side}
use Rattle.tt_game.specs.declared.turns.Turn.{Turn}
use Rattle.tt_game.specs.declared.frame.Frame.{Frame}
use Rattle.tt_proof.specs.EndRules.{EndRule, at_win, at_win_or_life, MayEnd}
use Rattle.tt_proof.specs.Strategy.{Strategy, Entries, done, pick, reply, none, entry}

module _ (rule : EndRule) (side : Side) (f : Frame) where
  abbrev mutual
    -- the strategy wins for the side from the state: it may end there; or the side is to move, and the turn is legal and wins;
    -- or the other side is to move, and each of its legal turns has an entry that wins after it
    pub WinsUnder : Strategy → State → Type 0
    WinsUnder done s = MayEnd rule side f s
    WinsUnder (pick t u) s = (winner_of f s ≡ None) × (s.to_move ≡ side) × IsLegal f s t × WinsUnder u (after f s t)
    WinsUnder (reply es) s =
        (winner_of f s ≡ None) × (s.to_move ≡ opponent side) × ((t : Turn) → IsLegal f s t → WinsBehindUnder es t s)

    -- some entry of the turn wins after it
    pub WinsBehindUnder : Entries → Turn → State → Type 0
    WinsBehindUnder none t s = ⊥
    WinsBehindUnder (entry t' u es) t s = ((t' ≡ t) × WinsUnder u (after f s t)) ⊎ WinsBehindUnder es t s

-- it wins, and ends only where its side has won
abbrev pub Wins : Side → Frame → Strategy → State → Type 0
Wins = WinsUnder at_win

abbrev pub WinsBehind : Side → Frame → Entries → Turn → State → Type 0
WinsBehind = WinsBehindUnder at_win

-- it wins; and if it's the defender's, it may also end where the attacker is to move and the targets are unconditionally alive
abbrev pub WinsOrLives : Side → Frame → Strategy → State → Type 0
WinsOrLives = WinsUnder at_win_or_life
