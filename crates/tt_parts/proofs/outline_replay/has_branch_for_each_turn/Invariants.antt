use Rattle.std.proofs.Common.{take}
use Rattle.tt_game.specs.declared.turns.Turn.{Turn}
use Rattle.tt_game.specs.laws.Members.{IsIn}
use Rattle.tt_parts.specs.Outlines.{branches_of_reply}
use Rattle.tt_parts.specs.SharedParts.{HasBranch}
use Rattle.tt_parts.proofs.outline_replay.has_branch_for_each_turn.Given as goal

abbrev pub invariant-loop-turn : goal.invariant-loop-turn
invariant-loop-turn l = (t : Turn) → IsIn (take l.turn-index l.turn-items) t → HasBranch (branches_of_reply l.list) t
