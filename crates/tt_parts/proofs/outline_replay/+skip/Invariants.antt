use Rattle.std.proofs.Common.{◌≡◌, drop}
use Rattle.tt_parts.specs.Outlines.{branches_of_reply}
use Rattle.tt_parts.specs.SharedParts.{with_unreached_branch_names}
use Rattle.tt_parts.proofs.outline_replay.+skip.Given as goal

abbrev pub invariant-skip_branches-loop-child : goal.invariant-skip_branches-loop-child
invariant-skip_branches-loop-child l =
    with_unreached_branch_names l.names.items (branches_of_reply (drop l.child-index l.list)) ≡ with_unreached_branch_names l.fn.names.items (branches_of_reply l.list)
