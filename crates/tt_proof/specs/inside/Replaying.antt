-- What the parts of a replay find out.
use Rattle.std.specs.Prelude.{◌≡◌, ◌⊎◌, ◌↔◌, Bool, IsTrue, Option, Some, None}
use Rattle.tt_game.specs.Game.{State, IsLegal, after, opponent, winner_of}
use Rattle.tt_game.specs.declared.frame.Side.{Side}
use Rattle.tt_game.specs.declared.turns.Turn.{Turn}
use Rattle.tt_game.specs.declared.frame.Frame.{Frame}
use Rattle.tt_proof.specs.Strategy.{Strategy, Entries, none, entry}
use Rattle.tt_proof.specs.EndRules.{EndRule}
use Rattle.tt_proof.specs.Wins.{WinsUnder}

-- the turn has an entry
abbrev pub HasEntry : Entries → Turn → Type 0
HasEntry none t = ⊥
HasEntry (entry t' u es) t = (t' ≡ t) ⊎ HasEntry es t

module _ (side : Side) (f : Frame) where
  -- the other side is to move, and each of its turns has an entry
  abbrev pub AnswersEach : State → Entries → Type 0
  AnswersEach s es =
      ((winner_of f s ≡ None) × (s.to_move ≡ opponent side)) × ((t : Turn) → IsLegal f s t → HasEntry es t)

module _ (rule : EndRule) (side : Side) (f : Frame) where
  -- each entry of a legal turn wins after it
  abbrev pub LegalWin : State → Entries → Type 0
  LegalWin s none = Unit {0}
  LegalWin s (entry t u es) = (IsLegal f s t → WinsUnder rule side f u (after f s t)) × LegalWin s es

  -- whether the strategy wins after the turn, or none where the turn is not legal
  abbrev pub AnswersAfter : State → Turn → Strategy → Option Bool → Type 0
  AnswersAfter s t u None = ¬ IsLegal f s t
  AnswersAfter s t u (Some wins) = IsLegal f s t × (IsTrue wins ↔ WinsUnder rule side f u (after f s t))
