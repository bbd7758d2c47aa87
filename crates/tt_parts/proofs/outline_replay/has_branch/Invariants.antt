use Rattle.std.proofs.Common.{◌↔◌, drop}
use Rattle.tt_parts.specs.Outlines.{branches_of_reply}
use Rattle.tt_parts.specs.SharedParts.{HasBranch}
use Rattle.tt_parts.proofs.outline_replay.has_branch.Given as goal

abbrev pub invariant-loop-branch : goal.invariant-loop-branch
invariant-loop-branch l = HasBranch (branches_of_reply l.list) l.turn ↔ HasBranch (branches_of_reply (drop l.branch-index l.list)) l.turn
