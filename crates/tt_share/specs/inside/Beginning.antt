-- What an answer begins with. Only private contracts cite this.
use Rattle.std.specs.Prelude.{◌≡◌, ℕ, List, Option}
use Rattle.tt_game.specs.declared.turns.Turn.{Turn}
use Rattle.tt_search.specs.SearchState.{SearchState}
use Rattle.tt_search.specs.declared.limits.Reason.{Reason}
use Rattle.tt_share.specs.declared.answer.Answer.{Answer}
use Rattle.tt_share.specs.declared.answer.Answer.TheVariants.{Settled, Unsettled}

-- the answer is settled, and its first turn is this one
abbrev pub BeginsWith : Option Turn → Answer → Type 0
BeginsWith turn (Settled proof first) = first ≡ turn
BeginsWith turn (Unsettled stuck) = ⊥

-- the answer says that the turn is stuck like this
abbrev pub IsStuckWith : Turn → Reason → Option SearchState → List (Turn × ℕ) → Answer → Type 0
IsStuckWith turn reason search spent (Settled proof first) = ⊥
IsStuckWith turn reason search spent (Unsettled stuck) =
    (stuck.turn ≡ turn) × (stuck.reason ≡ reason) × (stuck.search ≡ search) × (stuck.spent.items ≡ spent)
