-- Why a tree was not made a proof.
use Rattle.std.specs.Prelude.{◌≡◌}
use Rattle.tt_game.specs.Game.{State}
use Rattle.tt_game.specs.declared.frame.Side.{Side}
use Rattle.tt_game.specs.declared.frame.Frame.{Frame}
use Rattle.tt_proof.specs.declared.tree.Tree.{Tree}
use Rattle.tt_proof.specs.declared.proven.Rejected.{Rejected}
use Rattle.tt_proof.specs.declared.proven.Rejected.TheVariants.{NotWinning, NoMemory}
use Rattle.tt_proof.specs.Strategy.{strategy_of}
use Rattle.tt_proof.specs.Wins.{Wins}

-- the tree comes back, and is said not to win only where it does not
abbrev pub IsRejected : Rejected → Side → Frame → State → Tree → Type 0
IsRejected (NotWinning u) side f s t = (u ≡ t) × (¬ Wins side f (strategy_of t) s)
IsRejected (NoMemory u) side f s t = u ≡ t
