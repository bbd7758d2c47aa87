-- Children of a reply whose trees win.
use Rattle.std.specs.Prelude.{List, [], ◌∷◌}
use Rattle.tt_game.specs.declared.turns.Turn.{Turn}
use Rattle.tt_proof.specs.EndRules.{EndRule}
use Rattle.tt_proof.specs.ProofClaim.{ProofClaim, IsWinningTreeUnder}

-- each child's tree wins for its side from its own state
abbrev pub AllWon : EndRule → List (Turn × ProofClaim) → Type 0
AllWon rule [] = Unit {0}
AllWon rule (e ∷ es) = IsWinningTreeUnder rule e.1.side e.1.frame e.1.state e.1.tree × AllWon rule es
